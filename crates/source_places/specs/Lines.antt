-- Places that are on lines of sources.
use Rattle.std.specs.Prelude.{◌<◌, ◌^◌, ℕ, suc, List, All, length}
use Rattle.cov_host.specs.declared.place.Place.{Place}
use Rattle.coverage_db.specs.Table.{IsSourceLine}
use Rattle.verilog_lexer.specs.Sources.{SourceText}
use Rattle.verilog_lexer.specs.Tokens.{Lexeme}

-- the place is on a line of one of this number of sources, which are counted from 1
abbrev pub IsOnLine : ℕ → Place → Type 0
IsOnLine sources place = IsSourceLine sources (record { source = place.source; line = place.line })

-- the lines of each source can be counted in 32 bits
abbrev pub AreCounted : List SourceText → Type 0
AreCounted sources = All (λ source. suc (length source.bytes) < 2 ^ 32) sources

-- each token is on a line of one of this number of sources
abbrev pub AreOnLines : ℕ → List Lexeme → Type 0
AreOnLines sources tokens = All (λ token. IsOnLine sources token.place) tokens
