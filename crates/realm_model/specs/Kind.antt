-- The kinds of operations that have a reverse.
use Rattle.std.specs.Prelude.{Option, Some, None}
use Rattle.realm_model.specs.declared.act.Act.{Act}
use Rattle.realm_model.specs.declared.act.Act.TheVariants.{Take, Delegate, Realm, Rtt, Data, Unknown, Rec}
use Rattle.realm_model.specs.declared.act.Kind.{Kind}
use Rattle.realm_model.specs.declared.act.Kind.TheVariants as kind

abbrev pub act_kind : Act → Option Kind
act_kind (Take order first) = Some kind.Take
act_kind (Delegate granule) = Some kind.Delegate
act_kind (Realm rd root vmid) = Some kind.Realm
act_kind (Rtt granule ipa level) = Some kind.Rtt
act_kind (Data granule ipa source) = Some kind.Data
act_kind (Unknown granule ipa) = Some kind.Unknown
act_kind (Rec granule auxiliaries number) = Some kind.Rec
act_kind _ = None
