-- What is known of the outside of a host in memory without faults.
use Rattle.std.specs.Prelude.{Some, [], is_some, unwrap_or, string_bytes}
use Rattle.std.specs.Option.{option_map}
use Rattle.std.specs.BTreeMap.{get_by_text}
use Rattle.cov_host.specs.Outside.{Outside}
use Rattle.memory_hosts.specs.declared.sure_host.SureHost.{SureHost}

-- all that the outside has; it has no faults
abbrev pub sure_outside : SureHost → Outside
sure_outside host = record {
  files = Some (get_by_text host.files);
  rest = Some (unwrap_or host.input []);
  reading = is_some host.input;
  writing = is_some host.output;
  target = option_map string_bytes host.output;
  printed = Some host.printed;
  warned = Some host.warned;
  faults = 0;
  absences = host.absences;
  mute = host.mute;
}
