-- The proof that an operation has a kind if and only if it has a reverse.
use Rattle.std.proofs.Common.{◌≡◌, refl}
use Rattle.std.specs.Prelude.{is_some}
use Rattle.realm_model.specs.declared.act.Act.{Act}
use Rattle.realm_model.specs.declared.act.Act.TheVariants.{Take, Delegate, Realm, Rtt, Data, Unknown, Rec}
use Rattle.realm_model.specs.Act.{reverse_of, is_paired}
use Rattle.realm_model.specs.Kind.{act_kind}

pub paired_by_kind : (act : Act) → is_some (act_kind act) ≡ is_paired act
unfolding reverse_of
paired_by_kind (Take order first) = refl
paired_by_kind (Delegate granule) = refl
paired_by_kind (Realm rd root vmid) = refl
paired_by_kind (Rtt granule ipa level) = refl
paired_by_kind (Data granule ipa source) = refl
paired_by_kind (Unknown granule ipa) = refl
paired_by_kind (Rec granule auxiliaries number) = refl
paired_by_kind _ = refl
