pub mod Changes
pub mod Words
pub mod Unknown
pub use Rattle.written_words.specs as written_words
