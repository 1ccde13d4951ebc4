use Rattle.std.proofs.Common.{◌≡◌, [], Some, arith, rules, string_bytes}
use Rattle.std.specs.Option.{option_map}
use Rattle.std.specs.BTreeMap.{get_by_text}
use Rattle.std.proofs.lemmas.List.{append-nil}
use Rattle.std.proofs.lemmas.Map.Text.{text_keys}
use Rattle.std.proofs.lemmas.Result.{err_from_is_err_and}
use Rattle.std.proofs.Math.Seq.{take-length}
use Rattle.memory_hosts.proofs.Files.{appends_to, length_positive}
use Rattle.memory_hosts.proofs.sure_host.SureHostHost.write.Goals as goal

-- the output is one of the files
pub unwrap-bytes-requires : goal.unwrap-bytes-requires
unwrap-bytes-requires c =
    let is_output : c.args.self.now.output ≡ Some c.unwrap-name.result.now = search rules in
    grind (arith, text_keys, c.args.self.now.output_is_a_file _ is_output)

-- none of the piece was appended
pub returns-in_err-extend_from_slice-clause-refused : goal.returns-in_err-extend_from_slice-clause-refused
returns-in_err-extend_from_slice-clause-refused c =
    let before = get_by_text c.args.self.now.files in
    let after = get_by_text (c.get_mut.follows.lender c.extend_from_slice.new.self) in
    let name = string_bytes c.unwrap-name.result.now in
    let is_target : option_map string_bytes c.args.self.now.output ≡ Some name = search rules in
    let had : before name ≡ Some c.unwrap-bytes.result.now = grind (arith, text_keys) in
    let refused = err_from_is_err_and c.from_residual.result c.from_residual.ensures.1 in
    rw refused.1 (
      0,
      appends_to _ name c.unwrap-bytes.result.now [] before after is_target had (record {
        named = rw append-nil (grind (arith, text_keys));
        others = λ other apart. grind (arith, text_keys);
      }),
    )

pub returns-clause-written : goal.returns-clause-written
returns-clause-written c =
    let before = get_by_text c.args.self.now.files in
    let after = get_by_text (c.get_mut.follows.lender c.extend_from_slice.new.self) in
    let name = string_bytes c.unwrap-name.result.now in
    let is_target : option_map string_bytes c.args.self.now.output ≡ Some name = search rules in
    let had : before name ≡ Some c.unwrap-bytes.result.now = grind (arith, text_keys) in
    record {
      within = search rules;
      some = length_positive c.args.piece.now;
      files = rw take-length (appends_to _ name c.unwrap-bytes.result.now c.args.piece.now before after is_target had (record {
        named = grind (arith, text_keys);
        others = λ other apart. grind (arith, text_keys);
      }));
    }
