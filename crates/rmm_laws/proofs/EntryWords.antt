-- Proofs that decoding the word of a table entry gives the entry back, if its descriptor fits in 48 bits.
use Rattle.std.proofs.Common.{◌≡◌, ℕ, ◌+◌, ◌*◌, ◌/◌, ◌%◌, ◌^◌, ◌<◌, ◌==◌, false, refl, ap, ◌∙◌, arith}
use Rattle.std.proofs.lemmas.Bool.{cond_both}
use Rattle.rmm_model.specs.declared.entry.RmmRttEntry.{RmmRttEntry}
use Rattle.rmm_model.specs.declared.entry.RmmRttEntry.TheVariants.{Unassigned, Assigned, Table, UnassignedNs, AssignedNs}
use Rattle.rmm_model.specs.declared.entry.RmmRipas.TheVariants.{Empty, Ram, Destroyed}
use Rattle.rmm_model.specs.Entry.{entry_of, entry_at_kind, entry_word, descriptor_of, is_mapping, is_table, ripas_in}

module _ (kind low : ℕ) (fits : low < 2 ^ 48) where
  kind_field : (kind * 2 ^ 56 + low % 2 ^ 48) / 2 ^ 56 ≡ kind
  kind_field = omega arith

  low_field : (kind * 2 ^ 56 + low % 2 ^ 48) % 2 ^ 48 ≡ low
  low_field = omega arith

  both_fields : entry_at_kind ((kind * 2 ^ 56 + low % 2 ^ 48) / 2 ^ 56) ((kind * 2 ^ 56 + low % 2 ^ 48) % 2 ^ 48) ≡ entry_at_kind kind low
  both_fields = ap (λ (k : ℕ). entry_at_kind k ((kind * 2 ^ 56 + low % 2 ^ 48) % 2 ^ 48)) kind_field ∙ ap (entry_at_kind kind) low_field

pub entry_of-entry_word : (entry : RmmRttEntry) → descriptor_of entry < 2 ^ 48 → entry_of (entry_word entry) ≡ entry
unfolding entry_of entry_word
entry_of-entry_word (Unassigned Empty) fits = refl
entry_of-entry_word (Unassigned Ram) fits = refl
entry_of-entry_word (Unassigned Destroyed) fits = refl
entry_of-entry_word UnassignedNs fits = refl
entry_of-entry_word (Table address) fits = both_fields 4 address fits
entry_of-entry_word (AssignedNs desc) fits = both_fields 5 desc fits
entry_of-entry_word (Assigned Empty address) fits = both_fields 6 address fits
entry_of-entry_word (Assigned Ram address) fits = both_fields 7 address fits
entry_of-entry_word (Assigned Destroyed address) fits = both_fields 8 address fits

pub entry_word-fits : (entry : RmmRttEntry) → entry_word entry < 2 ^ 64
unfolding entry_word
entry_word-fits (Unassigned Empty) = omega arith
entry_word-fits (Unassigned Ram) = omega arith
entry_word-fits (Unassigned Destroyed) = omega arith
entry_word-fits UnassignedNs = omega arith
entry_word-fits (Table address) = omega arith
entry_word-fits (AssignedNs desc) = omega arith
entry_word-fits (Assigned Empty address) = omega arith
entry_word-fits (Assigned Ram address) = omega arith
entry_word-fits (Assigned Destroyed address) = omega arith

-- an entry decoded from a descriptor below 2^48 has a descriptor below 2^48
at_kind-few : (kind low : ℕ) → low < 2 ^ 48 → descriptor_of (entry_at_kind kind low) < 2 ^ 48
at_kind-few kind low fits =
    cond_both (kind == 1) _ _ (λ (e : RmmRttEntry). descriptor_of e < 2 ^ 48) (λ yes. omega arith) (λ no.
    cond_both (kind == 2) _ _ (λ (e : RmmRttEntry). descriptor_of e < 2 ^ 48) (λ yes. omega arith) (λ no.
    cond_both (kind == 3) _ _ (λ (e : RmmRttEntry). descriptor_of e < 2 ^ 48) (λ yes. omega arith) (λ no.
    cond_both (kind == 4) _ _ (λ (e : RmmRttEntry). descriptor_of e < 2 ^ 48) (λ yes. fits) (λ no.
    cond_both (kind == 5) _ _ (λ (e : RmmRttEntry). descriptor_of e < 2 ^ 48) (λ yes. fits) (λ no.
    cond_both (kind == 6) _ _ (λ (e : RmmRttEntry). descriptor_of e < 2 ^ 48) (λ yes. fits) (λ no.
    cond_both (kind == 7) _ _ (λ (e : RmmRttEntry). descriptor_of e < 2 ^ 48) (λ yes. fits) (λ no.
    cond_both (kind == 8) _ _ (λ (e : RmmRttEntry). descriptor_of e < 2 ^ 48) (λ yes. fits) (λ no. omega arith))))))))

pub descriptor-few : (word : ℕ) → descriptor_of (entry_of word) < 2 ^ 48
unfolding entry_of
descriptor-few word = at_kind-few (word / 2 ^ 56) (word % 2 ^ 48) (omega arith)

-- a word that is made of a kind and a descriptor is decoded to the entry of that kind with the descriptor modulo 2^48
by_field : {A : Type 0} (f : RmmRttEntry → A) (kind low : ℕ) → f (entry_at_kind ((kind * 2 ^ 56 + low % 2 ^ 48) / 2 ^ 56) ((kind * 2 ^ 56 + low % 2 ^ 48) % 2 ^ 48)) ≡ f (entry_at_kind kind (low % 2 ^ 48))
by_field f kind low =
    let high : (kind * 2 ^ 56 + low % 2 ^ 48) / 2 ^ 56 ≡ kind = omega arith in
    let rest : (kind * 2 ^ 56 + low % 2 ^ 48) % 2 ^ 48 ≡ low % 2 ^ 48 = omega arith in
    ap (λ (k : ℕ). f (entry_at_kind k ((kind * 2 ^ 56 + low % 2 ^ 48) % 2 ^ 48))) high ∙ ap (λ (d : ℕ). f (entry_at_kind kind d)) rest

pub word_ripas : (e : RmmRttEntry) → ripas_in (entry_of (entry_word e)) ≡ ripas_in e
unfolding entry_of entry_word
word_ripas (Unassigned Empty) = refl
word_ripas (Unassigned Ram) = refl
word_ripas (Unassigned Destroyed) = refl
word_ripas UnassignedNs = refl
word_ripas (Table address) = by_field ripas_in 4 address
word_ripas (AssignedNs desc) = by_field ripas_in 5 desc
word_ripas (Assigned Empty address) = by_field ripas_in 6 address
word_ripas (Assigned Ram address) = by_field ripas_in 7 address
word_ripas (Assigned Destroyed address) = by_field ripas_in 8 address

-- the descriptor of an entry that is encoded and decoded again is the old descriptor modulo 2^48
pub word_descriptor : (e : RmmRttEntry) → descriptor_of (entry_of (entry_word e)) ≡ descriptor_of e % 2 ^ 48
unfolding entry_of entry_word
word_descriptor (Unassigned Empty) = refl
word_descriptor (Unassigned Ram) = refl
word_descriptor (Unassigned Destroyed) = refl
word_descriptor UnassignedNs = refl
word_descriptor (Table address) = by_field descriptor_of 4 address
word_descriptor (AssignedNs desc) = by_field descriptor_of 5 desc
word_descriptor (Assigned Empty address) = by_field descriptor_of 6 address
word_descriptor (Assigned Ram address) = by_field descriptor_of 7 address
word_descriptor (Assigned Destroyed address) = by_field descriptor_of 8 address

pub table_mapping : (address : ℕ) → is_mapping (entry_of (entry_word (Table address))) ≡ false
unfolding entry_of entry_word
table_mapping address = by_field is_mapping 4 address

pub word_table : (e : RmmRttEntry) → is_table e ≡ false → is_table (entry_of (entry_word e)) ≡ false
unfolding entry_of entry_word
word_table (Unassigned Empty) leaf = refl
word_table (Unassigned Ram) leaf = refl
word_table (Unassigned Destroyed) leaf = refl
word_table UnassignedNs leaf = refl
word_table (AssignedNs desc) leaf = by_field is_table 5 desc
word_table (Assigned Empty address) leaf = by_field is_table 6 address
word_table (Assigned Ram address) leaf = by_field is_table 7 address
word_table (Assigned Destroyed address) leaf = by_field is_table 8 address
word_table (Table address) leaf = absurd (cc)
