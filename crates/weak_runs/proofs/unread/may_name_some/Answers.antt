use Rattle.std.proofs.Common.{[], refl, ◌∙◌}
use Rattle.weak_runs.proofs.Unknown.{marks_in}
use Rattle.weak_runs.proofs.unread.may_name_some.Goals as goal

pub returns : goal.returns
returns c = λ m is. (c.note_words.ensures m is).added tt [] refl ∙ marks_in _
