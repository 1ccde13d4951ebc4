pub mod FewTokens
