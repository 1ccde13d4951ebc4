use Rattle.std.proofs.Common.{◌∙◌, Some, sym, ap, rules}
use denote.Enum.Bare.{same_false, same_true}
use Rattle.command_line.specs.DatabaseOption.{option_named}
use Rattle.command_line.specs.PointAddresses.{addresses_among, addresses_of}
use Rattle.command_line.specs.WordsLeft.{left_words}
use Rattle.command_line.specs.contracts.database_option.DatabaseOption.{the_type}
use Rattle.command_line.proofs.AddressesAmong.{addresses_among-end, addresses_among-file, addresses_among-flag, addresses_among-skip, addresses_among-take}
use Rattle.command_line.proofs.DatabaseOptions.{option_named_none, option_named_text}
use Rattle.command_line.proofs.point_addresses.PointAddresses.next_address.Goals as goal

pub returns-then-eq-clause-address : goal.returns-then-eq-clause-address
returns-then-eq-clause-address c =
    let option = c.in-Some-named.option in
    let is_point = same_true the_type (search rules) _ _ (sym c.if-eq.ensures) in
    let is_option = ap option_named c.in-Some-named.ensures.named ∙ option_named_text option in
    let taken = c.next_word-then-eq in
    addresses_among-take c.in-Some.word.now (addresses_of c.args.self.now) (left_words c.next_word.new.self) (left_words taken.new.self) taken.result
    (is_option ∙ ap Some is_point)
    (sym c.loop-word.invariant ∙ ap addresses_among c.in-Some.ensures.word)
    taken.ensures.word

pub returns-then-eq-clause-end : goal.returns-then-eq-clause-end
returns-then-eq-clause-end c =
    let taken = c.next_word-then-eq in
    addresses_among-end c.in-Some.word.now (addresses_of c.args.self.now) (left_words c.next_word.new.self) (left_words taken.new.self) taken.result
    (sym c.loop-word.invariant ∙ ap addresses_among c.in-Some.ensures.word)
    taken.ensures.end

pub loop-word-preserved-in_default-named : goal.loop-word-preserved-in_default-named
loop-word-preserved-in_default-named c =
    sym (addresses_among-file c.in-Some.word.now (left_words c.next_word.new.self) (option_named_none c.in-Some.word.now c.in_default-named.ensures.unknown))
    ∙ sym (ap addresses_among c.in-Some.ensures.word)
    ∙ c.loop-word.invariant

pub loop-word-preserved-then-takes_value : goal.loop-word-preserved-then-takes_value
loop-word-preserved-then-takes_value c =
    let option = c.in-Some-named.option in
    let skipped = c.next_word-then-takes_value in
    let is_option = ap option_named c.in-Some-named.ensures.named ∙ option_named_text option in
    let takes = sym c.takes_value.ensures ∙ c.if-takes_value.true in
    let other = same_false the_type _ _ (sym c.if-eq.ensures) in
    sym (addresses_among-skip c.in-Some.word.now option (left_words c.next_word.new.self) (left_words skipped.new.self) skipped.result is_option takes other skipped.ensures.word skipped.ensures.end)
    ∙ sym (ap addresses_among c.in-Some.ensures.word)
    ∙ c.loop-word.invariant

pub loop-word-preserved : goal.loop-word-preserved
loop-word-preserved c =
    let option = c.in-Some-named.option in
    let is_option = ap option_named c.in-Some-named.ensures.named ∙ option_named_text option in
    let takes_none = sym c.takes_value.ensures ∙ c.if-takes_value.false in
    sym (addresses_among-flag c.in-Some.word.now option (left_words c.next_word.new.self) is_option takes_none)
    ∙ sym (ap addresses_among c.in-Some.ensures.word)
    ∙ c.loop-word.invariant
