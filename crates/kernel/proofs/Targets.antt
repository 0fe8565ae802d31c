-- The module that a message from outside is for.
use Rattle.std.proofs.Common.{◌≡◌, ℕ, ◌+◌, cond, Bool, List, [], ◌∷◌, Option, Some, None, option_map, bytes_eq, refl, sym, ap, ◌∙◌, map, if◌then◌else◌}
use Rattle.module_api.specs.Meaning.{Module}
use Rattle.model_questions.specs.declared.record.Record.{Record}
use Rattle.model_questions.specs.Records.{path_of}
use Rattle.run_semantics.specs.declared.traces.Instance.{Instance}
use Rattle.run_semantics.specs.Run.{Part, standing}
use Rattle.run_semantics.specs.Upcoming.{id_at}
use Rattle.kernel_boxes.specs.Seats.{BoxAt, instance_of, module_in}
use Rattle.kernel.specs.Seats.{stands_at}
use Rattle.kernel.specs.Parts.{part_in}
use Rattle.kernel.proofs.Rising.{Rise, parts_left, all_left, none_left, left_none, left_some, part_for, part_standing}

-- the part that stands at a path
abbrev pub id_among : List Record → List ℕ → List Part → Option ℕ
id_among records path [] = None
id_among records path (p ∷ ps) = if bytes_eq (path_of records p.id) path then Some p.id else id_among records path ps

-- a module has the id of its part
id_standing : (records : List Record) (path : List ℕ) (is : List Instance) → id_among records path (standing is) ≡ id_at records path is
id_standing records path [] = refl
id_standing records path (i ∷ is) = ap (cond (bytes_eq (path_of records i.id) path) (Some i.id)) (id_standing records path is)

pub target_begins : (records : List Record) (path : List ℕ) (is : List Instance) → id_among records path (parts_left 0 (standing is)) ≡ id_at records path is
target_begins records path is = ap (id_among records path) (all_left (standing is)) ∙ id_standing records path is

pub target_ends : (records : List Record) (path : List ℕ) (below n : ℕ) (ps : List Part) (whole : Option ℕ) → n ≡ below → Rise 0 below ps → id_among records path (parts_left n ps) ≡ whole → None ≡ whole
target_ends records path below n ps whole e r done = sym (ap (id_among records path) (ap (λ i. parts_left i ps) e ∙ none_left 0 below ps r)) ∙ done

target_at : (records : List Record) (path : List ℕ) (n below : ℕ) (ps : List Part) (found : Option Module) → Rise 0 below ps → part_in n ps ≡ option_map (part_for n) found
    → id_among records path (parts_left n ps) ≡ (if stands_at records path n found then Some n else id_among records path (parts_left (n + 1) ps))
target_at records path n below ps None rise e = ap (id_among records path) (left_none n 0 below ps rise e)
target_at records path n below ps (Some box) rise e = ap (id_among records path) (left_some n 0 below ps (part_for n box) rise e)

-- one id more: it is this one, or it is left
pub target_step : (records : List Record) (path : List ℕ) (n below : ℕ) (ss : List BoxAt) (whole : Option ℕ) (here : Bool) → Rise 0 below (standing (map instance_of ss)) → here ≡ stands_at records path n (module_in n ss)
    → id_among records path (parts_left n (standing (map instance_of ss))) ≡ whole → (if here then Some n else id_among records path (parts_left (n + 1) (standing (map instance_of ss)))) ≡ whole
target_step records path n below ss whole here rise is done =
    ap (λ (t : Bool). if t then Some n else id_among records path (parts_left (n + 1) (standing (map instance_of ss)))) is
    ∙ sym (target_at records path n below (standing (map instance_of ss)) (module_in n ss) rise (part_standing n ss))
    ∙ done
