use Rattle.std.proofs.Common.{◌∙◌}
use Rattle.vcd_reader.proofs.Splitting.{split_body}
use Rattle.vcd_reader.proofs.header.Header.split.Goals as goal

pub returns-clause-splits : goal.returns-clause-splits
returns-clause-splits c = λ text h. split_body c.args.self.reader.progress c.args.self.reader c.new-reader.result c.args.self.fault text h.done h.stands.means h.stands.at h.sound (c.new-reader.ensures.at_end ∙ c.is_at_end.ensures)
    (λ b stands at codes reading going. c.new-reader.ensures.stands text b stands at codes reading (c.is_at_end.ensures ∙ going))

pub returns-clause-at_end : goal.returns-clause-at_end
returns-clause-at_end c = c.new-reader.ensures.at_end ∙ c.is_at_end.ensures
