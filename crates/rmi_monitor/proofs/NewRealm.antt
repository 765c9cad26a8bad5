-- The proof that a new realm has the VMID and the starting tables that it was created with.
use Rattle.std.proofs.Common.{◌≡◌, ℕ, ap}
use Rattle.std.specs.FinMap.{empty}
use Rattle.granule_addr.specs.declared.width.Root.{Root}
use Rattle.realm_model.specs.Rows.{root_rows}
use Rattle.realm_model.specs.Machine.{RealmRow}
use Rattle.realm_model.specs.Command.Realm.{new_realm}
use Rattle.rmi_monitor.specs.Attributes.{RealmAttributes, realm_row}

pub new_vmid : (realm : RealmAttributes) (vmid : ℕ) (root : Root) → realm_row realm empty (root_rows root.width) ≡ new_realm vmid root → realm.vmid ≡ vmid
unfolding new_realm
new_vmid realm vmid root made = ap (λ (r : RealmRow). r.vmid) made

pub new_root : (realm : RealmAttributes) (vmid : ℕ) (root : Root) → realm_row realm empty (root_rows root.width) ≡ new_realm vmid root → realm.root ≡ root
unfolding new_realm
new_root realm vmid root made = ap (λ (r : RealmRow). r.root) made
