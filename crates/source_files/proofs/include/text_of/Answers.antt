use Rattle.source_files.proofs.Printable.{is_text}
use Rattle.source_files.proofs.include.text_of.Goals as goal

pub from_utf8_unchecked-requires : goal.from_utf8_unchecked-requires
from_utf8_unchecked-requires c = is_text c.args.name.now c.requires
