-- One more box, in its place.
use Rattle.std.proofs.Common.{◌≡◌, ℕ, nat_lt, Bool, true, false, cond, List, [], ◌∷◌, Option, Some, None, option_map, refl, sym, ap, ◌∙◌, map}
use Rattle.module_api.specs.Meaning.{Module}
use Rattle.module_tree.specs.Boxes.{Seated, box_of, with_box}
use Rattle.kernel_boxes.specs.Seats.{BoxAt, module_in}
use Rattle.kernel_boxes.proofs.Seating.{means_in, seat}
use Rattle.kernel.specs.Seats.{with_seat}

pub none_there : {A B : Type 0} (f : A → B) (o : Option A) → option_map f o ≡ None → o ≡ None
none_there f None e = refl
none_there f (Some x) e = cc

module _ {A : Type 0} (means : A → Module) where
  -- a tree has no box where there is none
  pub none_seated : (id : ℕ) (ss : List (Seated A)) → module_in id (map (seat means) ss) ≡ None → box_of id ss ≡ None
  none_seated id ss e = none_there means (box_of id ss) (sym (means_in means id ss) ∙ e)

  pub seat_placed : (id : ℕ) (y : A) (ss : List (Seated A)) → map (seat means) (with_box id y ss) ≡ with_seat (record { id = id; box = means y }) (map (seat means) ss)
  seat_placed id y [] = refl
  seat_placed id y (s ∷ ss) = by (nat_lt id s.id) (seat_placed id y ss)
    where
      one : BoxAt
      one = record { id = id; box = means y }

      by : (t : Bool) → map (seat means) (with_box id y ss) ≡ with_seat one (map (seat means) ss)
          → map (seat means) (cond t (record { id = id; box = y } ∷ s ∷ ss) (s ∷ with_box id y ss)) ≡ cond t (one ∷ seat means s ∷ map (seat means) ss) (seat means s ∷ with_seat one (map (seat means) ss))
      by true later = refl
      by false later = ap (λ ts. seat means s ∷ ts) later
