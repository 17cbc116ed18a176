-- Images of the pieces of a list, one piece behind the other.
use Rattle.std.proofs.Common.{◌≡◌, List, [], ◌∷◌, ◌++◌, map, flat_map, IfOk, Bor, sym, refl, ap, subst, ◌∙◌}
use Rattle.std.specs.Prelude.{Result, Ok, Err, MatchResult}
use Rattle.std.specs.List.{AllZip, Contains}
use Rattle.std.proofs.lemmas.List.{map-append}

module _ {X Y V : Type 0} (E : Type 0) (f : X → Y) (items : V → List Y) where
  -- if there is a result, its items are the images of the piece
  abbrev pub HasImages : Bor (List X) → Result V E → Type 0
  HasImages piece result = IfOk result (λ v. items v ≡ map f piece.now)

  -- the images of each piece, one behind the other, are those of the pieces, one behind the other
  images_joined : (pieces : List (Bor (List X))) (vs : List V) → AllZip HasImages pieces (map Ok vs) → flat_map items vs ≡ map f (flat_map (λ l. l) (map (λ piece. piece.now) pieces))
  images_joined [] [] each = refl
  images_joined [] (v ∷ vs) each = absurd each
  images_joined (piece ∷ pieces) [] each = absurd each
  images_joined (piece ∷ pieces) (v ∷ vs) each =
      ap (λ l. l ++ flat_map items vs) each.0 ∙ ap (λ l. map f piece.now ++ l) (images_joined pieces vs each.1)
      ∙ sym (map-append f piece.now (flat_map (λ l. l) (map (λ piece. piece.now) pieces)))

  -- so they are, if all results of a list were collected, those of the list that was cut into the pieces
  pub images_collected : {W : Type 0} (held : W → List V) (collected : Result W E) (pieces : List (Bor (List X))) (results : List (Result V E)) (xs : List X)
      → AllZip HasImages pieces results → flat_map (λ l. l) (map (λ piece. piece.now) pieces) ≡ xs
      → MatchResult collected (λ w. (vs : List V) × (results ≡ map Ok vs) × (held w ≡ vs)) (λ e. Contains results (Err e))
      → IfOk collected (λ w. flat_map items (held w) ≡ map f xs)
  images_collected held (Ok w) pieces results xs each whole made =
      ap (flat_map items) made.2 ∙ images_joined pieces made.0 (subst (AllZip HasImages pieces) made.1 each) ∙ ap (map f) whole
  images_collected held (Err e) pieces results xs each whole made = tt
