-- The proof that only operations that take or give back blocks change leases.
use Rattle.std.proofs.Common.{◌≡◌, ℕ, Bool, true, false, List, map, Option, Some, None, refl}
use Rattle.std.specs.List.{list_all}
use Rattle.granule_addr.specs.Root.{starting_tables}
use Rattle.realm_model.specs.declared.act.Act.{Act}
use Rattle.realm_model.specs.declared.act.Act.TheVariants.{Take, UnTake, Fill, Peek, Delegate, Undelegate, Realm, UnRealm, Activate}
use Rattle.realm_model.specs.declared.act.Act.TheVariants.{Rtt, UnRtt, Ripas, Data, Unknown, UnData, Rec, UnRec, Enter, Exit, Poke}
use Rattle.realm_model.specs.declared.states.GranuleState.TheVariants.{RecAux, Rtt as InRtt}
use Rattle.realm_model.specs.Machine.{Limits, Machine, Seen, seen, left, held}
use Rattle.realm_model.specs.Act.{named}
use Rattle.realm_model.specs.Update.{Update, Put}
use Rattle.realm_model.specs.Outcome.{outcome_of}
use Rattle.realm_model.proofs.Outcomes.{Yields, Yields-Ok, Yields-with_rec, Yields-with_realm, Yields-with_end, Yields-check, Yields-Err, Yields-with_granule}
use Rattle.realm_model.proofs.Written.{is_put, put_seen, each_in_front, each_alone}

abbrev pub is_of_block : Act → Bool
is_of_block (Take order first) = true
is_of_block (UnTake order first) = true
is_of_block _ = false

module _ (limits : Limits) (used : List ℕ) where
  abbrev Q : List Update → Type 0
  Q us = list_all is_put us ≡ true

  pub puts : (m : Machine) (act : Act) (realm : Option Seen) → is_of_block act ≡ false → Yields Q (outcome_of limits.vmids limits.aux used act realm (map (seen m) (named act)))
  unfolding outcome_of named
  puts m (Fill g v) realm k = Yields-check Q _ _ _ (λ _. Yields-Ok Q _ refl)
  puts m (Peek g o v) realm k = Yields-check Q _ _ _ (λ _. Yields-Ok Q _ refl)
  puts m (Delegate g) realm k = Yields-check Q _ _ _ (λ _. Yields-Ok Q _ refl)
  puts m (Undelegate g) realm k = Yields-check Q _ _ _ (λ _. Yields-Ok Q _ refl)
  puts m (Realm rd root v) realm k = Yields-check Q _ _ _ (λ _. Yields-Ok Q _ (each_alone Q (put_seen (held InRtt rd)) (λ a us h. h) (map (seen m) (starting_tables root)) refl))
  puts m (UnRealm rd root v) realm k = Yields-with_realm Q _ _ (λ d is. Yields-check Q _ _ _ (λ _. Yields-Ok Q _ (each_alone Q (λ g. Put g left) (λ g us h. h) (starting_tables d.root) refl)))
  puts m Activate None k = Yields-Err Q _
  puts m Activate (Some rd) k = Yields-with_realm Q _ _ (λ d is. Yields-check Q _ _ _ (λ _. Yields-Ok Q _ refl))
  puts m (Rtt g ipa level) None k = Yields-Err Q _
  puts m (Rtt g ipa level) (Some rd) k =
      Yields-with_realm Q _ _ (λ d is. Yields-check Q _ _ _ (λ _. Yields-with_end Q _ _ _ _ (λ end e. Yields-check Q _ _ _ (λ _. Yields-check Q _ _ _ (λ _. Yields-Ok Q _ refl)))))
  puts m (UnRtt g ipa level) None k = Yields-Err Q _
  puts m (UnRtt g ipa level) (Some rd) k =
      Yields-with_realm Q _ _ (λ d is. Yields-check Q _ _ _ (λ _. Yields-with_end Q _ _ _ _
      (λ end e. Yields-check Q _ _ _ (λ _. Yields-check Q _ _ _ (λ _. Yields-check Q _ _ _ (λ _. Yields-with_granule Q _ _ (λ pa to. Yields-Ok Q _ refl)))))))
  puts m (Ripas ipa n) None k = Yields-Err Q _
  puts m (Ripas ipa n) (Some rd) k =
      Yields-with_realm Q _ _ (λ d is. Yields-check Q _ _ _ (λ _. Yields-check Q _ _ _
      (λ _. Yields-with_end Q _ _ _ _ (λ end e. Yields-check Q _ _ _ (λ _. Yields-check Q _ _ _ (λ _. Yields-Ok Q _ refl))))))
  puts m (Data g ipa source) None k = Yields-Err Q _
  puts m (Data g ipa source) (Some rd) k =
      Yields-with_realm Q _ _ (λ d is. Yields-check Q _ _ _ (λ _. Yields-check Q _ _ _
      (λ _. Yields-with_end Q _ _ _ _ (λ end e. Yields-check Q _ _ _ (λ _. Yields-check Q _ _ _ (λ _. Yields-Ok Q _ refl))))))
  puts m (Unknown g ipa) None k = Yields-Err Q _
  puts m (Unknown g ipa) (Some rd) k =
      Yields-with_realm Q _ _ (λ d is. Yields-check Q _ _ _ (λ _. Yields-with_end Q _ _ _ _ (λ end e. Yields-check Q _ _ _ (λ _. Yields-check Q _ _ _ (λ _. Yields-Ok Q _ refl)))))
  puts m (UnData g ipa) None k = Yields-Err Q _
  puts m (UnData g ipa) (Some rd) k =
      Yields-with_realm Q _ _ (λ d is. Yields-check Q _ _ _ (λ _. Yields-with_end Q _ _ _ _
      (λ end e. Yields-check Q _ _ _ (λ _. Yields-check Q _ _ _ (λ _. Yields-with_granule Q _ _ (λ pa to. Yields-Ok Q _ refl))))))
  puts m (Rec g aux n) None k = Yields-Err Q _
  puts m (Rec g aux n) (Some rd) k =
      Yields-with_realm Q _ _ (λ d is. Yields-check Q _ _ _ (λ _. Yields-check Q _ _ _
      (λ _. Yields-Ok Q _ (each_in_front Q (put_seen (held RecAux rd.number)) (λ a us h. h) (map (seen m) aux.items) _ refl))))
  puts m (UnRec g aux n) None k = Yields-Err Q _
  puts m (UnRec g aux n) (Some rd) k =
      Yields-with_realm Q _ _ (λ d is. Yields-with_rec Q _ _ _ (λ rec there. Yields-check Q _ _ _ (λ _. Yields-Ok Q _ (each_in_front Q (λ g. Put g left) (λ g us h. h) rec.auxiliaries _ refl))))
  puts m (Enter n) None k = Yields-Err Q _
  puts m (Enter n) (Some rd) k = Yields-with_realm Q _ _ (λ d is. Yields-with_rec Q _ _ _ (λ rec there. Yields-check Q _ _ _ (λ _. Yields-check Q _ _ _ (λ _. Yields-Ok Q _ refl))))
  puts m (Exit n) None k = Yields-Err Q _
  puts m (Exit n) (Some rd) k = Yields-with_realm Q _ _ (λ d is. Yields-with_rec Q _ _ _ (λ rec there. Yields-check Q _ _ _ (λ _. Yields-Ok Q _ refl)))
  puts m (Poke n ipa o v) None k = Yields-Err Q _
  puts m (Poke n ipa o v) (Some rd) k =
      Yields-with_realm Q _ _ (λ d is. Yields-with_rec Q _ _ _ (λ rec there. Yields-check Q _ _ _
      (λ _. Yields-check Q _ _ _ (λ _. Yields-with_end Q _ _ _ _ (λ end e. Yields-check Q _ _ _ (λ _. Yields-with_granule Q _ _ (λ pa to. Yields-Ok Q _ refl)))))))
  puts m (Take order first) realm k = cc
  puts m (UnTake order first) realm k = cc
