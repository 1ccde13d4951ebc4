pub use Rattle.open_tests.specs as open_tests
