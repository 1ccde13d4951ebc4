-- The metrics that a report shows.
use Rattle.std.specs.Prelude.{ℕ, nat_le, Bool, true, false, not, ◌&&◌, ◌||◌, ◌==◌, List, length, count_by, Option, Some, None}
use Rattle.std.specs.List.{list_all, list_any}
use Rattle.command_line.specs.declared.report_metrics.ReportMetrics.{ReportMetrics}

-- the letters of the metrics: line, logic, toggle, fsm and memory
abbrev pub is_letter : ℕ → Bool
is_letter byte = byte == 108 || byte == 99 || byte == 116 || byte == 102 || byte == 109

abbrev pub has_letter : List ℕ → ℕ → Bool
has_letter word letter = list_any (λ byte. byte == letter) word

abbrev pub stands_once : List ℕ → ℕ → Bool
stands_once word letter = nat_le (count_by (λ byte. byte == letter) word) 1

-- each letter of a metric occurs at most once
abbrev pub stand_once : List ℕ → Bool
stand_once word = stands_once word 108 && stands_once word 99 && stands_once word 116 && stands_once word 102 && stands_once word 109

-- not empty, letters of metrics alone, and each at most once
abbrev pub is_letters : List ℕ → Bool
is_letters word = not (length word == 0) && list_all is_letter word && stand_once word

-- the metrics whose letters are in the word
abbrev pub metrics_named : List ℕ → ReportMetrics
metrics_named word = record { line = has_letter word 108; logic = has_letter word 99; toggle = has_letter word 116; fsm = has_letter word 102; memory = has_letter word 109 }

-- the metrics of a report: all but memory where none are given
abbrev pub metrics_of : Option (List ℕ) → ReportMetrics
metrics_of None = record { line = true; logic = true; toggle = true; fsm = true; memory = false }
metrics_of (Some word) = metrics_named word
