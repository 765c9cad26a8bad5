-- Proofs that texts appended one after another, each in coloured pieces, form a coloured copy of the concatenated text.
use Rattle.std.proofs.Common.{◌≡◌, ◌∙◌, ℕ, List, [], ◌∷◌, ◌++◌, refl, sym, ap, ap₂}
use Rattle.std.specs.Prelude.{Option}
use Rattle.std.proofs.lemmas.List.{append_assoc, append-nil}
use Rattle.command_line.specs.Painted.{AddsPainted, Piece, painted_pieces, shown_by, bytes_of_pieces}
use Rattle.command_line.specs.declared.paint.Colour.{Colour}

shown_both : (ps qs : List Piece) → painted_pieces (ps ++ qs) ≡ painted_pieces ps ++ painted_pieces qs
shown_both [] qs = refl
shown_both (p ∷ ps) qs = ap (λ s. shown_by p.0 p.1 ++ s) (shown_both ps qs) ∙ sym (append_assoc (shown_by p.0 p.1) (painted_pieces ps) (painted_pieces qs))

text_both : (ps qs : List Piece) → bytes_of_pieces (ps ++ qs) ≡ bytes_of_pieces ps ++ bytes_of_pieces qs
text_both [] qs = refl
text_both (p ∷ ps) qs = ap (λ s. p.1 ++ s) (text_both ps qs) ∙ sym (append_assoc p.1 (bytes_of_pieces ps) (bytes_of_pieces qs))

pub nothing_added : (old : List ℕ) → AddsPainted old [] old
nothing_added old = record { pieces = []; whole = refl; added = sym (append-nil old) }

-- to append one piece, in its colour if it has one, is to append a coloured copy of its bytes
pub piece_added : (old new : List ℕ) (colour : Option Colour) (bytes : List ℕ) → new ≡ old ++ shown_by colour bytes → AddsPainted old bytes new
piece_added old new colour bytes is = record {
  pieces = (colour, bytes) ∷ [];
  whole = append-nil bytes;
  added = is ∙ ap (λ s. old ++ s) (sym (append-nil (shown_by colour bytes)));
}

-- to append coloured copies of two texts, one after another, is to append a coloured copy of the concatenated text
pub both_added : (old mid new s t : List ℕ) → AddsPainted old s mid → AddsPainted mid t new → AddsPainted old (s ++ t) new
both_added old mid new s t first then = record {
  pieces = first.pieces ++ then.pieces;
  whole = text_both first.pieces then.pieces ∙ ap₂ ◌++◌ first.whole then.whole;
  added = then.added ∙ ap (λ it. it ++ painted_pieces then.pieces) first.added ∙ append_assoc old (painted_pieces first.pieces) (painted_pieces then.pieces)
      ∙ ap (λ s. old ++ s) (sym (shown_both first.pieces then.pieces));
}
