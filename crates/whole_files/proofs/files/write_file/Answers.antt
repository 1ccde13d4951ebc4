use Rattle.whole_files.proofs.EffectLemmas.{created_target, front_then_same, whole_is_front, written_file}
use Rattle.whole_files.proofs.files.write_file.Goals as goal

pub write_all-requires-clause-target : goal.write_all-requires-clause-target
write_all-requires-clause-target g c = created_target _ _ _ c.in-Ok.ensures.created

pub returns-in-Err-close_write-clause-front : goal.returns-in-Err-close_write-clause-front
returns-in-Err-close_write-clause-front g c =
    let made = c.in-Ok.ensures.created in
    whole_is_front _ _ _ _ (front_then_same _ _ _ _ _ (written_file _ _ _ _ _ _ made.files made.target c.in_ok-write_all.ensures.written) c.in-Err-close_write.ensures.files)
