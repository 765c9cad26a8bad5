use Rattle.std.proofs.Common.{◌∷◌, [], refl, sym}
use Rattle.std.specs.List.{range_with_len}
use Rattle.std.proofs.lemmas.Result.{err_from_is_err_and}
use Rattle.host_commands.specs.Needs.{operands, tables_named}
use Rattle.host_commands.proofs.FoundNext.{first_missing, next_after}
use Rattle.host_commands.proofs.pages.find_operands.Goals as goal

pub returns-in_err-find-in-Data : goal.returns-in_err-find-in-Data
unfolding operands
returns-in_err-find-in-Data g c =
    let told = err_from_is_err_and c.from_residual.result c.from_residual.ensures.1 in
    let view = g.D.BuildsView.seen c.args.view.now in
    let old = c.args.found.now.items in
    rw (told.1, told.2, c.in-Data.is) (first_missing view c.args.build (c.in-Data.page ∷ []) (c.in-Data.source ∷ []) c.in_err-find-in-Data.field-0.0
    old c.find.new.found.items c.find.new.found.items c.in_err-find-in-Data.ensures.next)

pub returns-in_err-find-in-Realm : goal.returns-in_err-find-in-Realm
unfolding operands
returns-in_err-find-in-Realm g c =
    let told = err_from_is_err_and c.from_residual-in_err-find-in-Realm.result c.from_residual-in_err-find-in-Realm.ensures.1 in
    let view = g.D.BuildsView.seen c.args.view.now in
    let old = c.args.found.now.items in
    rw (told.1, told.2, c.in-Realm.is) (first_missing view c.args.build (c.in-Realm.rd ∷ []) (range_with_len c.in-Realm.root (tables_named c.in-Realm.width)) c.in_err-find-in-Realm.field-0.0
    old c.find-in-Realm.new.found.items c.find-in-Realm.new.found.items c.in_err-find-in-Realm.ensures.next)

pub returns-in_err-find-in-Rec : goal.returns-in_err-find-in-Rec
unfolding operands
returns-in_err-find-in-Rec g c =
    let told = err_from_is_err_and c.from_residual-in_err-find-in-Rec.result c.from_residual-in_err-find-in-Rec.ensures.1 in
    let view = g.D.BuildsView.seen c.args.view.now in
    let old = c.args.found.now.items in
    rw (told.1, told.2, c.in-Rec.is) (first_missing view c.args.build (c.in-Rec.page ∷ []) c.in-Rec.auxiliaries.items c.in_err-find-in-Rec.field-0.0
    old c.find-in-Rec.new.found.items c.find-in-Rec.new.found.items c.in_err-find-in-Rec.ensures.next)

pub returns-in_ok-find-in-Data : goal.returns-in_ok-find-in-Data
unfolding operands
returns-in_ok-find-in-Data g c =
    rw (c.in-Data.is) (next_after (g.D.BuildsView.seen c.args.view.now) c.args.build (c.in-Data.page ∷ []) (c.in-Data.source ∷ []) c.args.found.now.items
    c.find.new.found.items c.find-in-Data.new.found.items c.find-in-Data.new.found.items
    c.find-in-Data.result c.in_ok-find-in-Data.ensures.next c.find-in-Data.ensures.next refl)

pub returns-in_ok-find-in-Realm : goal.returns-in_ok-find-in-Realm
unfolding operands
returns-in_ok-find-in-Realm g c =
    rw (c.in-Realm.is, sym c.tables_named.ensures.value) (next_after (g.D.BuildsView.seen c.args.view.now) c.args.build (c.in-Realm.rd ∷ [])
    (range_with_len c.in-Realm.root c.tables_named.result) c.args.found.now.items c.find-in-Realm.new.found.items c.find_run.new.found.items c.find_run.new.found.items
    c.find_run.result c.in_ok-find-in-Realm.ensures.next c.find_run.ensures refl)

pub returns-in_ok-find-in-Rec : goal.returns-in_ok-find-in-Rec
unfolding operands
returns-in_ok-find-in-Rec g c =
    rw (c.in-Rec.is, sym c.as_slice.ensures.value) (next_after (g.D.BuildsView.seen c.args.view.now) c.args.build (c.in-Rec.page ∷ []) c.as_slice.result.now
    c.args.found.now.items c.find-in-Rec.new.found.items c.find_all.new.found.items c.find_all.new.found.items
    c.find_all.result c.in_ok-find-in-Rec.ensures.next c.find_all.ensures refl)
