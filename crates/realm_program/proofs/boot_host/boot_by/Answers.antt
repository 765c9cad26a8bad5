use Rattle.std.proofs.Common.{◌∙◌, Err, ⊎_elim, true, ap, length, sym, replicate, arith}
use Rattle.std.proofs.lemmas.List.{length-replicate}
use Rattle.granule_addr.specs.Page.{zero_page}
use Rattle.realm_host.specs.Host.{booted_by}
use Rattle.realm_program.proofs.boot_host.boot_by.Goals as goal

pub unreachable-requires : goal.unreachable-requires
unreachable-requires g c =
    let some = c.requires.some in
    let few = c.requires.few in
    ⊎_elim (λ low. omega (arith, low, some)) (λ high. omega (arith, high, few)) (c.in-Err-BadSize.ensures.bad_size.0 (ap Err c.in-Err-BadSize.field-0-is))

pub boot-requires : goal.boot-requires
boot-requires g c =
    let made = c.in-Ok.ensures in
    let count = ap length made.zero ∙ length-replicate _ zero_page in
    record { zero = made.zero ∙ ap (λ n. replicate n zero_page) (sym count); free = made.free ∙ ap (λ n. replicate n true) (sym count) }

pub returns-in-Ok-boot : goal.returns-in-Ok-boot
returns-in-Ok-boot g c = c.in-Ok-boot.ensures.ok ∙ ap (booted_by c.args.settings) (ap length c.in-Ok.ensures.zero ∙ length-replicate c.args.pages zero_page)
