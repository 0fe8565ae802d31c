-- Where no 65th position is taken all stay.
use Rattle.std.proofs.Common.{◌≡◌, ℕ, suc, ◌+◌, ◌-◌, ◌≤◌, nat_lt, Bool, true, false, cond, List, [], ◌∷◌, ◌++◌, Option, length, refl, sym, ap, ◌∙◌, arith, append-nil, append_assoc, if◌then◌else◌}
use Rattle.std.specs.List.{filter}
use Rattle.std.proofs.lemmas.Bool.Decides.{nat_tests}
use Rattle.checkpoints.specs.Stored.{doubled, most_stored, stays, with_count, Timeline}
use Rattle.checkpoint_runs.specs.Positions.{behind, cut, first_behind, is_left, numbers_from, AllStay}

length_more : (ns : List ℕ) (n : ℕ) → length (ns ++ n ∷ []) ≡ suc (length ns)
length_more [] n = refl
length_more (k ∷ ns) n = ap suc (length_more ns n)

not_many : (n : ℕ) → n ≤ 64 → nat_lt most_stored n ≡ false
not_many n h = grind (arith, nat_tests)

-- one that is none too many leaves the others
few_taken : (n : ℕ) (t : Timeline ℕ) → suc (length t.stored) ≤ 64 → with_count n t ≡ record { first = t.first; interval = t.interval; stored = t.stored ++ n ∷ [] }
few_taken n t h =
    let l = length_more t.stored n in
    let all : Timeline ℕ = record { first = t.first; interval = t.interval; stored = t.stored ++ n ∷ [] } in
    ap (λ (c : Bool). if c then record { first = t.first; interval = doubled t.interval; stored = filter (λ k. stays (doubled t.interval) n k) (t.stored ++ n ∷ []) } else all)
    (not_many (length (t.stored ++ n ∷ [])) (omega (arith, l, h)))

few_behind : (due : ℕ → ℕ → Bool) (t : Timeline ℕ) (ns : List ℕ) → length t.stored + length (filter (due t.interval) ns) ≤ 64
    → behind due t ns ≡ record { first = t.first; interval = t.interval; stored = t.stored ++ filter (due t.interval) ns }
few_behind due t [] h = ap (λ (ks : List ℕ). record { first = t.first; interval = t.interval; stored = ks }) (sym (append-nil t.stored))
few_behind due t (n ∷ ns) h = by (due t.interval n) (few_behind due (record { first = t.first; interval = t.interval; stored = t.stored ++ n ∷ [] }) ns) (few_behind due t ns) h
  where
    rest : List ℕ
    rest = filter (due t.interval) ns

    more : Timeline ℕ
    more = record { first = t.first; interval = t.interval; stored = t.stored ++ n ∷ [] }

    by : (c : Bool) → (length more.stored + length rest ≤ 64 → behind due more ns ≡ record { first = t.first; interval = t.interval; stored = more.stored ++ rest })
        → (length t.stored + length rest ≤ 64 → behind due t ns ≡ record { first = t.first; interval = t.interval; stored = t.stored ++ rest })
        → length t.stored + length (cond c (n ∷ rest) rest) ≤ 64
        → behind due (if c then with_count n t else t) ns ≡ record { first = t.first; interval = t.interval; stored = t.stored ++ cond c (n ∷ rest) rest }
    by true f g few =
        let l = length_more t.stored n in
        let one : suc (length t.stored) ≤ 64 = omega (arith, few) in
        let fits : length (t.stored ++ n ∷ []) + length rest ≤ 64 = omega (arith, l, few) in
        ap (λ (u : Timeline ℕ). behind due u ns) (few_taken n t one)
        ∙ f fits
        ∙ ap (λ (ks : List ℕ). record { first = t.first; interval = t.interval; stored = ks }) (append_assoc t.stored (n ∷ []) rest)
    by false f g few = g few

pub all_stay : (old : Timeline ℕ) (start : Option ℕ) (last : ℕ) (faulted : Bool) → AllStay old start last faulted
all_stay old start last faulted h = few_behind (is_left last faulted) (cut start old) (numbers_from (first_behind start) (suc last - first_behind start)) h
