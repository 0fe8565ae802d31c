-- Items of a connections section.
use Rattle.std.proofs.Common.{◌≡◌, ℕ, ◌+◌, ◌<◌, ◌≤◌, List, [], ◌∷◌, length, Result, Bor, ap, sym, subst, ◌∙◌, arith}
use Rattle.inside_keys.specs.declared.found.State.{State}
use Rattle.inside_keys.specs.Asked.{KeyAsking}
use Rattle.inside_keys.specs.Inside.{Rest, looped, connected, connection_lines, item, items}
use Rattle.inside_keys.specs.Places.{Scope}
use Rattle.inside_keys.specs.States.{at_item, at_line}
use Rattle.inside_parts.specs.declared.fault.InsideError.{InsideError}
use Rattle.ned_trees.specs.declared.connections.Clause.{Clause}
use Rattle.ned_trees.specs.declared.connections.ConnectionItem.{ConnectionItem}
use Rattle.ned_trees.specs.declared.connections.ConnectionLine.{ConnectionLine}
use Rattle.inside_walk.specs.declared.task.Body.{Body}
use Rattle.inside_walk.specs.declared.task.Ground.{Ground}
use Rattle.inside_walk.specs.declared.task.Next.{Next}
use Rattle.inside_walk.specs.declared.task.Task.{Task}
use Rattle.inside_walk.specs.declared.task.Task.TheVariants as task
use Rattle.inside_walk.specs.Tasks.{Leads, body_of, continued, joined, scope_of}
use Rattle.inside_walk.specs.Weights.{Spends, of_body, of_clauses, of_connection, of_connection_lines, of_item, of_items}
use Rattle.inside_walk.proofs.Spent.{below}

pub items_some : (is : List ConnectionItem) → 0 < of_items is
items_some [] = omega arith
items_some (i ∷ is) = omega arith

pub connection_lines_some : (cs : List ConnectionLine) → 0 < of_connection_lines cs
connection_lines_some [] = omega arith
connection_lines_some (c ∷ cs) = omega arith

part_of : (a b c : ℕ) → a + b ≤ c → a ≤ c
part_of a b c h = omega arith

rest_of : (a b c : ℕ) → a + b ≤ c → b ≤ c
rest_of a b c h = omega arith

module _ (g : Ground) (ts us above : List Task) (s : State) (r : Result Next InsideError) where
  -- clauses that were taken out of what they belong to, around a body
  pub clauses_lead : (given cs : List Clause) (b : Body) (does : Scope → State → Rest → KeyAsking) → given ≡ cs → body_of g b ≡ does
      → Leads g r us (looped g.place given (body_of g b) (scope_of ts) s (continued g ts)) → Leads g r us (looped g.place cs does (scope_of ts) s (continued g ts))
  clauses_lead given cs b does f k h =
      subst (λ (x : Scope → State → Rest → KeyAsking). Leads g r us (looped g.place cs x (scope_of ts) s (continued g ts))) k
      (subst (λ x. Leads g r us (looped g.place x (body_of g b) (scope_of ts) s (continued g ts))) f h)

  pub clauses_spend : (given cs : List Clause) (b : Body) (w n : ℕ) → given ≡ cs → of_body b ≡ w
      → Spends g (of_clauses given (of_body b)) (of_clauses given (of_body b)) ts n r us → Spends g (of_clauses cs w) (of_clauses cs w) ts n r us
  clauses_spend given cs b w n f k h =
      subst (λ x. Spends g (of_clauses cs x) (of_clauses cs x) ts n r us) k (subst (λ x. Spends g (of_clauses x (of_body b)) (of_clauses x (of_body b)) ts n r us) f h)

  pub items_lead : (is : List ConnectionItem) (i : ConnectionItem) (rest : Bor (List ConnectionItem)) (u : State) (k : ℕ) → is ≡ i ∷ rest.now → above ≡ task.Items rest ∷ ts → u ≡ at_item s k → k ≡ length rest.now
      → Leads g r us (item g.place g.submodules.now g.gates.now (joined g) i (scope_of above) u (continued g above)) → Leads g r us (items g.place g.submodules.now g.gates.now (joined g) is (scope_of ts) s (continued g ts))
  items_lead is i rest u k e js f q h =
      subst (λ x. Leads g r us (items g.place g.submodules.now g.gates.now (joined g) x (scope_of ts) s (continued g ts))) (sym e)
      (subst (λ a. Leads g r us (item g.place g.submodules.now g.gates.now (joined g) i (scope_of a) (at_item s (length rest.now)) (continued g a))) js
      (subst (λ v. Leads g r us (item g.place g.submodules.now g.gates.now (joined g) i (scope_of above) v (continued g above))) (f ∙ ap (at_item s) q) h))

  items_more : (is : List ConnectionItem) (i : ConnectionItem) (rest : List ConnectionItem) → is ≡ i ∷ rest → of_item i + of_items rest ≤ of_items is
  items_more is i rest e = let same : of_items is ≡ of_item i + of_items rest + 2 = ap of_items e in omega (arith, same)

  pub items_spend : (is : List ConnectionItem) (i : ConnectionItem) (rest : Bor (List ConnectionItem)) (u : State) (k : ℕ) → is ≡ i ∷ rest.now → above ≡ task.Items rest ∷ ts → u ≡ at_item s k
      → Spends g (of_item i) (of_item i) above u.turns r us → Spends g (of_items is) (of_items is) ts s.turns r us
  items_spend is i rest u k e js f h =
      let m = items_more is i rest.now e in
      below g (task.Items rest) above ts (of_item i) (of_items is) (of_item i) (of_items is) s.turns r us js (part_of (of_item i) (of_items rest.now) (of_items is) m) (rest_of (of_item i) (of_items rest.now) (of_items is) m) m
      (subst (λ (v : State). Spends g (of_item i) (of_item i) above v.turns r us) f h)

  pub connection_lines_lead : (ls : List ConnectionLine) (l : ConnectionLine) (rest : Bor (List ConnectionLine)) (u : State) (k : ℕ) → ls ≡ l ∷ rest.now → above ≡ task.Connections rest ∷ ts → u ≡ at_line s k → k ≡ length rest.now
      → Leads g r us (looped g.place l.clauses (connected g.place g.submodules.now g.gates.now (joined g) l.connection) (scope_of above) u (continued g above))
      → Leads g r us (connection_lines g.place g.submodules.now g.gates.now (joined g) ls (scope_of ts) s (continued g ts))
  connection_lines_lead ls l rest u k e js f q h =
      subst (λ x. Leads g r us (connection_lines g.place g.submodules.now g.gates.now (joined g) x (scope_of ts) s (continued g ts))) (sym e)
      (subst (λ a. Leads g r us (looped g.place l.clauses (connected g.place g.submodules.now g.gates.now (joined g) l.connection) (scope_of a) (at_line s (length rest.now)) (continued g a))) js
      (subst (λ v. Leads g r us (looped g.place l.clauses (connected g.place g.submodules.now g.gates.now (joined g) l.connection) (scope_of above) v (continued g above))) (f ∙ ap (at_line s) q) h))

  abbrev of_line : ConnectionLine → ℕ
  of_line l = of_clauses l.clauses (of_connection l.connection)

  lines_more : (ls : List ConnectionLine) (l : ConnectionLine) (rest : List ConnectionLine) → ls ≡ l ∷ rest → of_line l + of_connection_lines rest ≤ of_connection_lines ls
  lines_more ls l rest e = let same : of_connection_lines ls ≡ of_line l + of_connection_lines rest + 2 = ap of_connection_lines e in omega (arith, same)

  pub connection_lines_spend : (ls : List ConnectionLine) (l : ConnectionLine) (rest : Bor (List ConnectionLine)) (u : State) (k : ℕ) → ls ≡ l ∷ rest.now → above ≡ task.Connections rest ∷ ts → u ≡ at_line s k
      → Spends g (of_clauses l.clauses (of_connection l.connection)) (of_clauses l.clauses (of_connection l.connection)) above u.turns r us → Spends g (of_connection_lines ls) (of_connection_lines ls) ts s.turns r us
  connection_lines_spend ls l rest u k e js f h =
      let m = lines_more ls l rest.now e in
      below g (task.Connections rest) above ts (of_line l) (of_connection_lines ls) (of_line l) (of_connection_lines ls) s.turns r us js
      (part_of (of_line l) (of_connection_lines rest.now) (of_connection_lines ls) m) (rest_of (of_line l) (of_connection_lines rest.now) (of_connection_lines ls) m) m
      (subst (λ (v : State). Spends g (of_line l) (of_line l) above v.turns r us) f h)
