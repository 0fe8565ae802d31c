-- Submodules, gates and parameters.
use Rattle.std.proofs.Common.{◌≡◌, ℕ, suc, zero, ◌+◌, ◌*◌, ◌<◌, ◌≤◌, max, true, false, if◌then◌else◌, List, [], ◌∷◌, length, slice_get, Option, Some, None, IfSome, Result, Ok, Bor, refl, ap, sym, subst, ◌∙◌, arith}
use Rattle.std.specs.Option.{option_copied}
use Rattle.sim_values.specs.declared.value.Value.{Value}
use Rattle.inside_keys.specs.declared.found.State.{State}
use Rattle.inside_keys.specs.declared.key.Key.{Key}
use Rattle.inside_keys.specs.declared.key.Module.{Module}
use Rattle.inside_keys.specs.declared.key.What.{What}
use Rattle.inside_keys.specs.Asked.{KeyAsking, ask_then, number_then, numbered_by, result_then, size_then}
use Rattle.inside_keys.specs.Inside.{gates, gates_in, is_vector, parameters, element, element_of, element_typed, elements, misplaced_of, sized, sizes, submodule_there, submodule, submodules}
use Rattle.inside_keys.specs.Keys.{child, key}
use Rattle.inside_keys.specs.States.{grown, noted, part_added}
use Rattle.sim_values.specs.declared.model_fault.ModelFault.{ModelFault}
use Rattle.inside_parts.specs.declared.fault.InsideError.{InsideError}
use Rattle.inside_parts.specs.declared.gates.TypeGate.{TypeGate}
use Rattle.inside_parts.specs.declared.gates.TypeGates.{TypeGates}
use Rattle.ned_trees.specs.declared.declarations.SectionLine.{SectionLine}
use Rattle.ned_trees.specs.declared.declarations.Submodule.{Submodule}
use Rattle.ned_trees.specs.declared.declarations.TypeDeclaration.{TypeDeclaration}
use Rattle.inside_parts.specs.declared.parts.Made.TheVariants.{Single as OneMade, Vector}
use Rattle.inside_walk.specs.declared.task.Ground.{Ground}
use Rattle.inside_walk.specs.declared.task.Next.{Next}
use Rattle.inside_walk.specs.declared.task.Next.TheVariants as next
use Rattle.inside_walk.specs.declared.task.Sort.{Sort}
use Rattle.inside_walk.specs.declared.task.Sort.TheVariants as sort
use Rattle.inside_walk.specs.declared.task.Task.{Task}
use Rattle.inside_walk.specs.declared.task.Task.TheVariants as task
use Rattle.inside_walk.specs.declared.task.Wait.TheVariants as wait
use Rattle.inside_walk.specs.Tasks.{Leads, continued, size_by, sizes_task, waited}
use Rattle.inside_walk.specs.Weights.{IsSpent, Spends, of_section, of_gates, of_types, of_type_gates, of_typed, of_element, of_submodule, of_submodules, of_task, of_tasks, cost_of_task, cost_of_tasks}
use Rattle.inside_walk.proofs.Spent.{below}

pub section_some : (ls : List SectionLine) → 1 ≤ of_section ls
section_some [] = omega arith
section_some (l ∷ ls) = omega arith

pub section_spends : (g : Ground) (ts us : List Task) (ls : List SectionLine) (l : SectionLine) (rest : List SectionLine) (n : ℕ) (r : Result Next InsideError) → ls ≡ l ∷ rest → Spends g (of_section rest + 3) 0 ts n r us → Spends g (of_section ls) 0 ts n r us
section_spends g ts us ls l rest n r e h = subst (λ x. Spends g (of_section x) 0 ts n r us) (sym e) h

-- the parameters of one type are no more than those of all
pub types_some : (ts : List TypeDeclaration) → 1 ≤ of_types ts
types_some [] = omega arith
types_some (t ∷ ts) = let h = types_some ts in omega (arith, h)

pub type_within : (ts : List TypeDeclaration) (n : ℕ) (t : TypeDeclaration) → slice_get ts n ≡ Some t → of_section t.lines ≤ of_types ts
type_within [] n t e = cc
type_within (u ∷ ts) zero t e = let same : u ≡ t = cc in let k : of_section u.lines ≡ of_section t.lines = ap (λ (x : TypeDeclaration). of_section x.lines) same in omega (arith, k)
type_within (u ∷ ts) (suc n) t e = let h : of_section t.lines ≤ of_types ts = type_within ts n t e in omega (arith, h)

pub gates_within : (gs : List TypeGates) (n : ℕ) → of_gates (gates_in (slice_get gs n)) ≤ of_type_gates gs
gates_within [] n = omega arith
gates_within (g ∷ gs) zero = omega arith
gates_within (g ∷ gs) (suc n) = let h : of_gates (gates_in (slice_get gs n)) ≤ of_type_gates gs = gates_within gs n in omega (arith, h)

-- one that was lent
pub type_lent : (ts : List TypeDeclaration) (n : ℕ) (r : Option (Bor TypeDeclaration)) → option_copied r ≡ slice_get ts n → IfSome r (λ t. of_section t.now.lines ≤ of_types ts)
type_lent ts n None e = tt
type_lent ts n (Some t) e = type_within ts n t.now (sym e)

pub gates_lent : (gs : List TypeGates) (n : ℕ) (r : Option (Bor TypeGates)) (x : Bor TypeGates) (l : List TypeGate) → option_copied r ≡ slice_get gs n → r ≡ Some x → l ≡ x.now.gates → l ≡ gates_in (slice_get gs n)
gates_lent gs n r x l e is h = h ∙ ap gates_in (sym (ap option_copied is) ∙ e)

pub gates_weigh : (gs : List TypeGates) (n : ℕ) (l : List TypeGate) → l ≡ gates_in (slice_get gs n) → of_gates l ≤ of_type_gates gs
gates_weigh gs n l h = subst (λ x. of_gates x ≤ of_type_gates gs) (sym h) (gates_within gs n)

pub no_gates : (gs : List TypeGates) (n : ℕ) (r : Option (Bor TypeGates)) → option_copied r ≡ slice_get gs n → r ≡ None → [] ≡ gates_in (slice_get gs n)
no_gates gs n r e is = ap gates_in (sym (ap option_copied is) ∙ e)

pub gates_some : (gs : List TypeGates) → 1 ≤ of_type_gates gs
gates_some [] = omega arith
gates_some (g ∷ gs) = let h : 1 ≤ of_type_gates gs = gates_some gs in omega (arith, h)

-- a gate's size is asked for
pub gate_asks : (g : Ground) (above ts : List Task) (m : Module) (which : Sort) (gate : TypeGate) (rest : Bor (List TypeGate)) (s : State) (k : Key) (w : What) → above ≡ task.Gates m which rest ∷ ts → k ≡ key m w → w ≡ size_by which gate.name
    → gate.kind.is_vector ≡ true → ask_then k (λ v. waited g wait.Gate v s (continued g above)) ≡ gates m (size_by which) (gate ∷ rest.now) s (continued g ts)
gate_asks g above ts m which gate rest s k w is e f h =
    ap (λ a. ask_then k (λ v. waited g wait.Gate v s (continued g a))) is
    ∙ ap (λ j. ask_then j (λ v. waited g wait.Gate v s (continued g (task.Gates m which rest ∷ ts)))) (e ∙ ap (key m) f)
    ∙ sym (ap (λ b. if b then ask_then (key m (size_by which gate.name)) (λ v. size_then v (λ n. gates m (size_by which) rest.now (grown s n) (continued g ts))) else gates m (size_by which) rest.now (grown s 1) (continued g ts)) h)

pub gates_spend : (g : Ground) (ts us : List Task) (gs : List TypeGate) (x : TypeGate) (rest : List TypeGate) (n : ℕ) (r : Result Next InsideError) → gs ≡ x ∷ rest → Spends g (of_gates rest + 3) 0 ts n r us → Spends g (of_gates gs) 0 ts n r us
gates_spend g ts us gs x rest n r e h = subst (λ l. Spends g (of_gates l) 0 ts n r us) (sym e) h

module _ (g : Ground) where
  abbrev here : List Submodule → State → (State → KeyAsking) → KeyAsking
  here = submodules g.site g.types.now g.gates.now g.is_whole

  -- what asks for the sizes of a submodule's gates
  sizes_lead : (ts : List Task) (m : Module) (o : Option (Bor (List ℕ))) (gs : Bor (List TypeGate)) (ls : Bor (List SectionLine)) (holder : Module) (s : State)
      → continued g (task.Parameters m ls ∷ sizes_task holder o gs ∷ ts) s ≡ parameters m ls.now s (λ u. sizes holder (option_copied o) gs.now u (continued g ts))
  sizes_lead ts m None gs ls holder s = refl
  sizes_lead ts m (Some x) gs ls holder s = refl

  -- a submodule's parameters and gates are laid on the stack
  pub type_leads : (ts a b : List Task) (l : Submodule) (d : TypeDeclaration) (n : ℕ) (s t : State) (m holder : Module) (index : Option ℕ) (o : Option (Bor (List ℕ))) (gs : Bor (List TypeGate)) (ls : Bor (List SectionLine)) (first : Task)
      → first ≡ sizes_task holder o gs → a ≡ first ∷ ts → b ≡ task.Parameters m ls ∷ a
      → holder ≡ m → option_copied o ≡ misplaced_of g.site g.types.now g.gates.now g.is_whole l n d → gs.now ≡ gates_in (slice_get g.gates.now n) → ls.now ≡ (if g.is_whole then d.lines else []) → t ≡ part_added s n index
      → continued g b t ≡ element_of g.site g.types.now g.gates.now g.is_whole l m index n s (continued g ts) d
  type_leads ts a b l d n s t m holder index o gs ls first e is js same p f k q =
      ap (λ x. continued g x t) (js ∙ ap (λ x. task.Parameters m ls ∷ x) (is ∙ ap (λ x. x ∷ ts) e))
      ∙ sizes_lead ts m o gs ls holder t
      ∙ ap (λ ns. parameters m ns t (λ u. sizes holder (option_copied o) gs.now u (continued g ts))) k
      ∙ ap (λ x. parameters m asked x (λ u. sizes holder (option_copied o) gs.now u (continued g ts))) q
      ∙ ap (λ x. parameters m asked (part_added s n index) (λ u. sizes holder (option_copied o) x u (continued g ts))) f
      ∙ ap (λ x. parameters m asked (part_added s n index) (λ u. sizes holder x declared u (continued g ts))) p
      ∙ ap (λ x. parameters m asked (part_added s n index) (λ u. sizes x (misplaced_of g.site g.types.now g.gates.now g.is_whole l n d) declared u (continued g ts))) same
    where
      asked : List SectionLine
      asked = if g.is_whole then d.lines else []

      declared : List TypeGate
      declared = gates_in (slice_get g.gates.now n)

  light : (names params first all of_ts p q : ℕ) → names ≤ params → first ≤ all + 2 → p ≡ q → 0 + (names + (first + of_ts)) + p < (params + all + 3) + of_ts + q
  light names params first all of_ts p q h k e = omega arith

  sizes_weigh : (m : Module) (o : Option (Bor (List ℕ))) (gs : Bor (List TypeGate)) (all : ℕ) → of_gates gs.now ≤ all → 1 ≤ all → of_task g (sizes_task m o gs) ≤ all + 2
  sizes_weigh m None gs all h k = omega (arith, h)
  sizes_weigh m (Some x) gs all h k = omega (arith, k)

  sizes_cost : (m : Module) (o : Option (Bor (List ℕ))) (gs : Bor (List TypeGate)) → cost_of_task (sizes_task m o gs) ≡ 0
  sizes_cost m None gs = refl
  sizes_cost m (Some x) gs = refl

  nothing : (most c : ℕ) → c ≤ most → max 0 (max 0 c) ≤ most
  nothing most c h = omega arith

  both_within : (a b c : ℕ) → a ≤ b → b ≤ c → a ≤ c
  both_within a b c h k = omega arith

  pub type_spends : (ts a b : List Task) (d : TypeDeclaration) (n : ℕ) (s t : State) (m holder : Module) (index : Option ℕ) (o : Option (Bor (List ℕ))) (gs : Bor (List TypeGate)) (ls : Bor (List SectionLine)) (first : Task)
      → first ≡ sizes_task holder o gs → a ≡ first ∷ ts → b ≡ task.Parameters m ls ∷ a
      → of_gates gs.now ≤ of_type_gates g.gates.now → of_section ls.now ≤ of_section d.lines → of_section d.lines ≤ of_types g.types.now → t ≡ part_added s n index
      → (most : ℕ) → 0 ≤ most → cost_of_tasks ts ≤ most → IsSpent g most (of_typed g) ts s.turns (next.Go t) b
  type_spends ts a b d n s t m holder index o gs ls first e is js f w v q most z c =
      subst (λ x. IsSpent g most (of_typed g) ts s.turns (next.Go t) x) (sym (js ∙ ap (λ x. task.Parameters m ls ∷ x) (is ∙ ap (λ x. x ∷ ts) e)))
      (record {
        cost = z;
        costs = subst (λ y. max 0 (max y (cost_of_tasks ts)) ≤ most) (sym (sizes_cost holder o gs)) (nothing most (cost_of_tasks ts) c);
        less = light (of_section ls.now) (of_types g.types.now) (of_task g (sizes_task holder o gs)) (of_type_gates g.gates.now) (of_tasks g ts) (t.turns * most) (s.turns * most)
            (both_within (of_section ls.now) (of_section d.lines) (of_types g.types.now) w v)
            (sizes_weigh holder o gs (of_type_gates g.gates.now) f (gates_some g.gates.now)) (ap (λ (x : State). x.turns * most) q);
      })

  -- the type of a submodule is known
  pub known_leads : (ts us : List Task) (l : Submodule) (index : Option ℕ) (v : Value) (n : ℕ) (m : Module) (s : State) (r : Result Next InsideError) → numbered_by v ≡ Ok n → m ≡ child g.site l.name index
      → Leads g r us (element_typed g.site g.types.now g.gates.now g.is_whole l m index n s (continued g ts))
      → Leads g r us (number_then v (λ k. element_typed g.site g.types.now g.gates.now g.is_whole l (child g.site l.name index) index k s (continued g ts)))
  known_leads ts us l index v n m s r e f h =
      subst (λ x. Leads g r us x)
      (ap (λ (a : Module). element_typed g.site g.types.now g.gates.now g.is_whole l a index n s (continued g ts)) f
      ∙ sym (ap (λ (x : Result ℕ ModelFault). result_then x (λ k. element_typed g.site g.types.now g.gates.now g.is_whole l (child g.site l.name index) index k s (continued g ts))) e))
      h

  -- what is made of a declaration that is no vector
  pub there_leads : (ts us : List Task) (l : Submodule) (s t : State) (n : ℕ) (r : Result Next InsideError) → is_vector l ≡ false → t ≡ noted s (OneMade n) → n ≡ length s.parts.parts
      → Leads g r us (element g.site g.types.now g.gates.now g.is_whole l None t (continued g ts)) → Leads g r us (submodule_there g.site g.types.now g.gates.now g.is_whole l s (continued g ts))
  there_leads ts us l s t n r h e f x =
      subst (λ y. Leads g r us y)
      (ap (λ u. element g.site g.types.now g.gates.now g.is_whole l None u (continued g ts)) (e ∙ ap (λ k. noted s (OneMade k)) f)
      ∙ sym (ap (λ b. if b then vector else element g.site g.types.now g.gates.now g.is_whole l None (noted s (OneMade (length s.parts.parts))) (continued g ts)) h))
      x
    where
      vector : KeyAsking
      vector = sized g.site l (λ n. elements g.site g.types.now g.gates.now g.is_whole n n l (noted s (Vector (length s.parts.parts) n)) (continued g ts))

  pub there_spends : (ts us : List Task) (s t : State) (n : ℕ) (r : Result Next InsideError) → t ≡ noted s (OneMade n) → Spends g (of_element g) 0 ts t.turns r us → Spends g (of_element g) 0 ts s.turns r us
  there_spends ts us s t n r e h = subst (λ (x : State). Spends g (of_element g) 0 ts x.turns r us) e h

  pub submodules_lead : (ts us above : List Task) (ls : List Submodule) (l : Submodule) (rest : Bor (List Submodule)) (s : State) (r : Result Next InsideError) → ls ≡ l ∷ rest.now → above ≡ task.Submodules rest ∷ ts
      → Leads g r us (submodule g.site g.types.now g.gates.now g.is_whole l s (continued g above)) → Leads g r us (submodules g.site g.types.now g.gates.now g.is_whole ls s (continued g ts))
  submodules_lead ts us above ls l rest s r e is h =
      subst (λ x. Leads g r us (here x s (continued g ts))) (sym e) (subst (λ a. Leads g r us (submodule g.site g.types.now g.gates.now g.is_whole l s (continued g a))) is h)

  submodules_more : (ls : List Submodule) (l : Submodule) (rest : List Submodule) → ls ≡ l ∷ rest → of_submodule g + of_submodules g rest ≤ of_submodules g ls
  submodules_more ls l rest e = let same : of_submodules g ls ≡ of_submodule g + of_submodules g rest + 2 = ap (of_submodules g) e in omega (arith, same)

  pub submodules_spend : (ts us above : List Task) (ls : List Submodule) (l : Submodule) (rest : Bor (List Submodule)) (n : ℕ) (r : Result Next InsideError) → ls ≡ l ∷ rest.now → above ≡ task.Submodules rest ∷ ts → Spends g (of_submodule g) 0 above n r us
      → Spends g (of_submodules g ls) 0 ts n r us
  submodules_spend ts us above ls l rest n r e is h =
      below g (task.Submodules rest) above ts (of_submodule g) (of_submodules g ls) 0 0 n r us is (omega arith) (omega arith) (submodules_more ls l rest.now e) h

pub element_within : (e : ℕ) → e ≤ 65536 * e + e + 5
element_within e = omega arith

pub there_within : (e : ℕ) → 65536 * e + e + 5 ≤ 65536 * e + e + 8
there_within e = omega arith

pub held_within : (e : ℕ) → 65536 * e + e + 5 ≤ 65536 * e + e + 6
held_within e = omega arith
