-- Proofs that the event list of a worker's seat has one event for each accepted command or undo of the worker. Then
-- proofs that answered exchanges, with one more answered exchange at the end, are answered in sequence.
use Rattle.std.proofs.Common.{◌≡◌, ℕ, List, [], ◌∷◌, ◌++◌, refl, sym, ap, subst, ◌∙◌}
use Rattle.std.proofs.lemmas.List.{append-nil, append_assoc}
use Rattle.std.proofs.lemmas.List.Elements.{filter-append}
use Rattle.std.specs.Prelude.{Option, Some, None, Result, Ok, Err, IfOk, IfErr, filter, option_and_then}
use Rattle.std.specs.List.{AllZip, last_or}
use Rattle.realm_model.proofs.Lists.{last_push}
use Rattle.realm_model.specs.Act.{reverse_of}
use Rattle.realm_model.specs.Undoing.{by}
use Rattle.realm_model.specs.declared.act.Act.{Act}
use Rattle.realm_model.specs.declared.act.Event.{Event}
use Rattle.realm_model.specs.Kind.{act_kind}
use Rattle.realm_model.specs.declared.act.Kind.{Kind}
use Rattle.host_commands.specs.declared.cmd.Cmd.{Cmd}
use Rattle.host_commands.specs.declared.cmd.Cmd.TheVariants.{Take, Fill, Peek, Delegate, Realm, Rtt, Ripas, Data, Unknown, Rec, Activate, Enter, Exit, Poke}
use Rattle.host_commands.specs.declared.refusal.Refusal.{Refusal}
use Rattle.host_commands.specs.declared.reply.Reply.{Reply}
use Rattle.host_ledger.specs.View.{HostView, open_of}
use Rattle.realm_host.specs.Answer.{IsActOf}
use Rattle.realm_host.specs.Call.{Ask, Undo}
use Rattle.realm_host.specs.declared.command.HostAnswer.TheVariants.{Replied, Undone as WasUndone}
use Rattle.host_commands.specs.declared.reply.Undone.{Undone}
use Rattle.build_seats.specs.Exchange.{Exchange, Did, Undid, KeptMark, CheckedBack, is_event}
use Rattle.builders.specs.Answered.{IsAnswered, AreAnswered}
use Rattle.build_seats.specs.Seats.{SeatView, new_seat, with_noted}
use Rattle.build_seats.specs.Told.{IsCallTold, IsCallRefused}
use Rattle.builders.specs.Trails.{IsActFor, IsReverseOf, IsEventOf, IsTrailOf}

-- ---- the event of an accepted question

act_for : (host : HostView) (build : ℕ) (cmd : Cmd) (act : Act) → IsActOf host build (Ask cmd) act → IsActFor cmd act
act_for host build (Take order) act is = is
act_for host build (Fill page value) act is = (_, _, is)
act_for host build (Peek page offset) act is = (_, _, is)
act_for host build (Delegate page) act is = (_, _, is)
act_for host build (Realm rd root width) act is = (_, _, is)
act_for host build (Rtt page ipa level) act is = (_, _, is)
act_for host build (Ripas ipa count) act is = (_, _, is)
act_for host build (Data page ipa source) act is = (_, _, is)
act_for host build (Unknown page ipa) act is = (_, _, is)
act_for host build (Rec page auxiliaries) act is = (_, _, is)
act_for host build Activate act is = (_, _, is)
act_for host build (Enter number) act is = (_, _, is)
act_for host build (Exit number) act is = (_, _, is)
act_for host build (Poke number ipa offset value) act is = (_, _, is)

reverse_for : (newest : Option Act) (kind : Kind) (act : Act) → option_and_then act_kind newest ≡ Some kind → option_and_then reverse_of newest ≡ Some act → IsReverseOf kind act
reverse_for None kind act k r = cc
reverse_for (Some opened) kind act k r = (opened, k, r)

abbrev event_or : Event → Option Event → Event
event_or other None = other
event_or other (Some event) = event

-- two events are equal if adding either of them to the end of a history gives the same list
same_end : (history grown : List Event) (event other : Event) → grown ≡ history ++ event ∷ [] → grown ≡ history ++ other ∷ [] → event ≡ other
same_end history grown event other one two =
    ap (event_or other) (sym (last_push None history event) ∙ ap (last_or None) (sym one ∙ two) ∙ last_push None history other)

replied_event : (opened : HostView) (cmd : Cmd) (reply : Reply) (seat new : SeatView) (told : IsCallTold opened (Ask cmd) (Replied reply) seat new)
    → IsEventOf seat.build (Did cmd (Ok reply)) told.event
replied_event opened cmd reply seat new told =
    let it = told.answered in
    let is = same_end told.host.history told.new.history (by seat.build it.act) told.event (ap (λ (h : HostView). h.history) it.accepted.grows) told.ends in
    subst (IsEventOf seat.build (Did cmd (Ok reply))) is (refl, act_for told.host seat.build cmd it.act it.accepted.act_of, (_, it.reply_is))

undone_event : (opened : HostView) (undone : Undone) (seat new : SeatView) (told : IsCallTold opened Undo (WasUndone undone) seat new) → IsEventOf seat.build (Undid (Ok undone)) told.event
undone_event opened undone seat new told =
    let it = told.answered in
    let is = same_end told.host.history told.new.history (by seat.build it.act) told.event (ap (λ (h : HostView). h.history) it.accepted.grows) told.ends in
    subst (IsEventOf seat.build (Undid (Ok undone))) is
    (refl, reverse_for (last_or None (open_of told.host seat.build)) undone.kind it.act it.kind it.accepted.act_of)

-- ---- trails

AllZip-push : {A B : Type 0} (R : A → B → Type 0) (xs : List A) (ys : List B) (x : A) (y : B) → AllZip R xs ys → R x y → AllZip R (xs ++ x ∷ []) (ys ++ y ∷ [])
AllZip-push R [] [] x y h r = (r, tt)
AllZip-push R [] (b ∷ bs) x y h r = absurd h
AllZip-push R (a ∷ more) [] x y h r = absurd h
AllZip-push R (a ∷ more) (b ∷ bs) x y h r = (h.0, AllZip-push R more bs x y h.1 r)

trail_more : (build : ℕ) (earlier : List Exchange) (trail : List Event) (exchange : Exchange) (event : Event) → filter is_event (exchange ∷ []) ≡ exchange ∷ []
    → IsEventOf build exchange event → IsTrailOf build earlier trail → IsTrailOf build (earlier ++ exchange ∷ []) (trail ++ event ∷ [])
unfolding IsTrailOf
trail_more build earlier trail exchange event counts is so =
    subst (λ es. AllZip (IsEventOf build) es (trail ++ event ∷ [])) (sym (filter-append is_event earlier (exchange ∷ []) ∙ ap (λ es. filter is_event earlier ++ es) counts))
    (AllZip-push (IsEventOf build) (filter is_event earlier) trail exchange event so is)

trail_same : (build : ℕ) (earlier : List Exchange) (trail : List Event) (exchange : Exchange) → filter is_event (exchange ∷ []) ≡ []
    → IsTrailOf build earlier trail → IsTrailOf build (earlier ++ exchange ∷ []) trail
unfolding IsTrailOf
trail_same build earlier trail exchange none so =
    subst (λ es. AllZip (IsEventOf build) es trail)
    (sym (filter-append is_event earlier (exchange ∷ []) ∙ ap (λ es. filter is_event earlier ++ es) none ∙ append-nil (filter is_event earlier))) so

-- ---- an exchange, and the events that it adds to a trail

unfoldable pub Tells : SeatView → SeatView → Exchange → Type 0
Tells old new exchange = (earlier : List Exchange) → IsTrailOf old.build earlier old.trail → IsTrailOf new.build (earlier ++ exchange ∷ []) new.trail

noted_tells : (old new : SeatView) (exchange : Exchange) (event : Event) → filter is_event (exchange ∷ []) ≡ exchange ∷ [] → IsEventOf old.build exchange event → new ≡ with_noted old event
    → Tells old new exchange
unfolding Tells
noted_tells old new exchange event counts is noted earlier so =
    subst (λ (s : SeatView). IsTrailOf s.build (earlier ++ exchange ∷ []) s.trail) (sym noted) (trail_more old.build earlier old.trail exchange event counts is so)

same_tells : (old new : SeatView) (exchange : Exchange) → filter is_event (exchange ∷ []) ≡ [] → new ≡ old → Tells old new exchange
unfolding Tells
same_tells old new exchange none same earlier so =
    subst (λ (s : SeatView). IsTrailOf s.build (earlier ++ exchange ∷ []) s.trail) (sym same) (trail_same old.build earlier old.trail exchange none so)

answered_tells : (opened : HostView) (old new : SeatView) (exchange : Exchange) → IsAnswered opened old exchange new → Tells old new exchange
answered_tells opened old new (Did cmd (Ok reply)) is = noted_tells old new (Did cmd (Ok reply)) is.event refl (replied_event opened cmd reply old new is) is.noted
answered_tells opened old new (Did cmd (Err refusal)) is = same_tells old new (Did cmd (Err refusal)) refl is.1
answered_tells opened old new (Undid (Ok undone)) is = noted_tells old new (Undid (Ok undone)) is.event refl (undone_event opened undone old new is) is.noted
answered_tells opened old new (Undid (Err refusal)) is = same_tells old new (Undid (Err refusal)) refl is.1
answered_tells opened old new (KeptMark result) is = same_tells old new (KeptMark result) refl is.1
answered_tells opened old new (CheckedBack mark result) is = same_tells old new (CheckedBack mark result) refl is.1

answers_tell : (opened : HostView) (exchanges earlier : List Exchange) (old new : SeatView) → AreAnswered opened old exchanges new → IsTrailOf old.build earlier old.trail
    → IsTrailOf new.build (earlier ++ exchanges) new.trail
unfolding Tells
answers_tell opened [] earlier old new are so =
    subst (λ es. IsTrailOf new.build es new.trail) (sym (append-nil earlier)) (subst (λ (s : SeatView). IsTrailOf s.build earlier s.trail) (sym are) so)
answers_tell opened (exchange ∷ exchanges) earlier old new (between, is, are) so =
    subst (λ es. IsTrailOf new.build es new.trail) (append_assoc earlier (exchange ∷ []) exchanges)
    (answers_tell opened exchanges (earlier ++ exchange ∷ []) between new are (answered_tells opened old between exchange is earlier so))

-- if a new seat's requests are answered in sequence, the seat at the end has one event for each accepted command or
-- undo among these requests
pub trail_of_answers : (opened : HostView) (build : ℕ) (exchanges : List Exchange) (new : SeatView) → AreAnswered opened (new_seat build) exchanges new → IsTrailOf new.build exchanges new.trail
unfolding IsTrailOf
trail_of_answers opened build exchanges new are = answers_tell opened exchanges [] (new_seat build) new are tt

-- ---- one answer more

answered_more : (opened : HostView) (old : SeatView) (exchanges : List Exchange) (between : SeatView) (exchange : Exchange) (new : SeatView)
    → AreAnswered opened old exchanges between → IsAnswered opened between exchange new → AreAnswered opened old (exchanges ++ exchange ∷ []) new
answered_more opened old [] between exchange new are is = (new, subst (λ (s : SeatView). IsAnswered opened s exchange new) are is, refl)
answered_more opened old (first ∷ exchanges) between exchange new (next, its, are) is = (next, its, answered_more opened next exchanges between exchange new are is)

-- if a new seat's requests are answered in sequence, and a further request of the same build is answered next, all
-- these requests are answered in sequence
pub answer_more : (opened : HostView) (old new : SeatView) (exchange : Exchange) → new.build ≡ old.build → IsAnswered opened old exchange new
    → (earlier : List Exchange) → AreAnswered opened (new_seat old.build) earlier old → AreAnswered opened (new_seat new.build) (earlier ++ exchange ∷ []) new
answer_more opened old new exchange same is earlier are =
    subst (λ build. AreAnswered opened (new_seat build) (earlier ++ exchange ∷ []) new) (sym same) (answered_more opened (new_seat old.build) earlier old exchange new are is)

asked : (opened : HostView) (old new : SeatView) (cmd : Cmd) (result : Result Reply Refusal) → IfOk result (λ reply. IsCallTold opened (Ask cmd) (Replied reply) old new)
    → IfErr result (λ refusal. IsCallRefused opened (Ask cmd) refusal old × (new ≡ old)) → IsAnswered opened old (Did cmd result) new
asked opened old new cmd (Ok reply) ok err = ok
asked opened old new cmd (Err refusal) ok err = err

-- if two commands are equal, the answer to one is an answer to the other
pub asked_again : (opened : HostView) (old new : SeatView) (cmd again : Cmd) (result : Result Reply Refusal) → again ≡ cmd → IfOk result (λ reply. IsCallTold opened (Ask again) (Replied reply) old new)
    → IfErr result (λ refusal. IsCallRefused opened (Ask again) refusal old × (new ≡ old)) → IsAnswered opened old (Did cmd result) new
asked_again opened old new cmd again result same ok err = subst (λ c. IsAnswered opened old (Did c result) new) same (asked opened old new again result ok err)

pub undone : (opened : HostView) (old new : SeatView) (result : Result Undone Refusal) → IfOk result (λ undone. IsCallTold opened Undo (WasUndone undone) old new)
    → IfErr result (λ refusal. IsCallRefused opened Undo refusal old × (new ≡ old)) → IsAnswered opened old (Undid result) new
undone opened old new (Ok did) ok err = ok
undone opened old new (Err refusal) ok err = err

pub asked_build : (opened : HostView) (old new : SeatView) (cmd : Cmd) (result : Result Reply Refusal) → IfOk result (λ reply. IsCallTold opened (Ask cmd) (Replied reply) old new)
    → IfErr result (λ refusal. IsCallRefused opened (Ask cmd) refusal old × (new ≡ old)) → new.build ≡ old.build
asked_build opened old new cmd (Ok reply) ok err = ap (λ (s : SeatView). s.build) ok.noted
asked_build opened old new cmd (Err refusal) ok err = ap (λ (s : SeatView). s.build) err.1

pub undone_build : (opened : HostView) (old new : SeatView) (result : Result Undone Refusal) → IfOk result (λ undone. IsCallTold opened Undo (WasUndone undone) old new)
    → IfErr result (λ refusal. IsCallRefused opened Undo refusal old × (new ≡ old)) → new.build ≡ old.build
undone_build opened old new (Ok undone) ok err = ap (λ (s : SeatView). s.build) ok.noted
undone_build opened old new (Err refusal) ok err = ap (λ (s : SeatView). s.build) err.1
