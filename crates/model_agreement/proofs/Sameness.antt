-- What is the same by what it holds is one.
use Rattle.std.proofs.Common.{◌≡◌, ℕ, ◌==◌, int_eq, Bool, true, false, ◌&&◌, List, [], ◌∷◌, Option, Some, None, refl, sym, ap, ◌∙◌, subst, eqb-true, bytes_eq, length, rules}
use Rattle.std.specs.Bool.{Decides, beq}
use Rattle.std.specs.Cmp.{booleans_Decides}
use Rattle.std.proofs.lemmas.Bool.Decides.{Decides-int_eq, Decides-eqb}
use Rattle.std.proofs.lemmas.Slice.Eq.{bytes_eq-Decides}
use denote.Enum.Bare.{sameb, same_true, true_same}
use Rattle.sim_values.specs.contracts.value.Dimension as dimension_kind
use Rattle.sim_values.specs.declared.value.Value.{Value}
use Rattle.sim_values.specs.declared.value.Value.TheVariants as value
use Rattle.sim_values.specs.contracts.value_fault.ValueFault as fault_kind
use Rattle.sim_values.specs.declared.model_fault.ModelFault.{ModelFault}
use Rattle.sim_values.specs.declared.model_fault.ModelFault.TheVariants as fault
use Rattle.model_questions.specs.declared.answer.Answer.{Answer}
use Rattle.model_questions.specs.declared.answer.Answer.TheVariants as answer
use Rattle.model_questions.specs.declared.answer.Built.{Built}
use Rattle.module_api.specs.contracts.call.Direction as direction_kind
use Rattle.module_api.specs.declared.call.Gate.{Gate}
use Rattle.model_questions.specs.contracts.answer.ChannelKind as channel_kind
use Rattle.model_questions.specs.declared.answer.Channel.{Channel}
use Rattle.model_questions.specs.declared.answer.Neighbour.{Neighbour}
use Rattle.model_questions.specs.declared.answer.Neighbour.TheVariants as neighbour
use Rattle.model_questions.specs.declared.answer.NextGate.{NextGate}
use Rattle.model_injections.specs.declared.injection.Injection.{Injection}
use Rattle.model_agreement.specs.Same.{same_value, same_class, same_index, same_built, same_inside, same_due, same_message, same_injection, same_injections, same_next, same_gate, same_neighbour, same_channel, same_hop, same_end, same_fault, same_answer, same_names}

both : (a b : Bool) → (a && b) ≡ true → (a ≡ true) × (b ≡ true)
both true b e = (refl, e)
both false b e = cc

join : (a b : Bool) → a ≡ true → b ≡ true → (a && b) ≡ true
join a b e f = ap (λ x. x && b) e ∙ f

not_true : (b : Bool) → (b ≡ true → ⊥) → b ≡ false
not_true true h = absurd (h refl)
not_true false h = refl

-- ---- what is the same is one

value_is : (a b : Value) → same_value a b ≡ true → a ≡ b
value_is (value.Whole a) (value.Whole b) e = ap value.Whole ((Decides-int_eq a b).0 e)
value_is (value.Truth a) (value.Truth b) e = ap value.Truth ((booleans_Decides a b).0 e)
value_is (value.Text a) (value.Text b) e = ap value.Text ((bytes_eq-Decides a b).0 e)
value_is (value.Quantity d a) (value.Quantity f b) e =
    let h = both (sameb dimension_kind.the_type d f) (int_eq a b) e in
    ap (λ x. value.Quantity x a) (same_true dimension_kind.the_type (search rules) d f h.0) ∙ ap (value.Quantity f) ((Decides-int_eq a b).0 h.1)
value_is _ _ e = cc

class_is : (a b : Option (List ℕ)) → same_class a b ≡ true → a ≡ b
class_is None None e = refl
class_is (Some a) (Some b) e = ap Some ((bytes_eq-Decides a b).0 e)
class_is _ _ e = cc

index_is : (a b : Option ℕ) → same_index a b ≡ true → a ≡ b
index_is None None e = refl
index_is (Some a) (Some b) e = ap Some (eqb-true a b e)
index_is _ _ e = cc

built_is : (a b : Built) → same_built a b ≡ true → a ≡ b
built_is a b e =
    let h = both (bytes_eq a.name b.name) (same_index a.index b.index && same_class a.class b.class) e in
    let k = both (same_index a.index b.index) (same_class a.class b.class) h.1 in
    ap (λ x. record { name = x; index = a.index; class = a.class }) ((bytes_eq-Decides a.name b.name).0 h.0)
    ∙ (ap (λ x. record { name = b.name; index = x; class = a.class }) (index_is a.index b.index k.0)
    ∙ ap (λ x. record { name = b.name; index = b.index; class = x }) (class_is a.class b.class k.1))

inside_is : (a b : List Built) → same_inside a b ≡ true → a ≡ b
inside_is [] [] e = refl
inside_is (a ∷ xs) (b ∷ ys) e =
    let h = both (same_built a b) (same_inside xs ys) e in
    ap (λ x. x ∷ xs) (built_is a b h.0) ∙ ap (λ zs. b ∷ zs) (inside_is xs ys h.1)
inside_is _ _ e = cc

injection_is : (a b : Injection) → same_injection a b ≡ true → a ≡ b
injection_is a b e =
    let h = both (a.number == b.number) (bytes_eq a.path b.path && (same_due a b && same_message a b)) e in
    let k = both (bytes_eq a.path b.path) (same_due a b && same_message a b) h.1 in
    let l = both (same_due a b) (same_message a b) k.1 in
    let d = both (a.due.time == b.due.time) (int_eq a.due.priority b.due.priority) l.0 in
    let n = both (int_eq a.kind b.kind) ((a.bits == b.bits) && bytes_eq a.payload b.payload) l.1 in
    let p = both (a.bits == b.bits) (bytes_eq a.payload b.payload) n.1 in
    ap (λ x. record a { number = x }) (eqb-true a.number b.number h.0)
    ∙ (ap (λ x. record a { number = b.number; path = x }) ((bytes_eq-Decides a.path b.path).0 k.0)
    ∙ (ap (λ x. record a { number = b.number; path = b.path; due = record { time = x; priority = a.due.priority } }) (eqb-true a.due.time b.due.time d.0)
    ∙ (ap (λ x. record a { number = b.number; path = b.path; due = record { time = b.due.time; priority = x } }) ((Decides-int_eq a.due.priority b.due.priority).0 d.1)
    ∙ (ap (λ x. record a { number = b.number; path = b.path; due = b.due; kind = x }) ((Decides-int_eq a.kind b.kind).0 n.0)
    ∙ (ap (λ x. record a { number = b.number; path = b.path; due = b.due; kind = b.kind; bits = x }) (eqb-true a.bits b.bits p.0)
    ∙ ap (λ x. record b { payload = x }) ((bytes_eq-Decides a.payload b.payload).0 p.1))))))

next_is : (a b : Option Injection) → same_next a b ≡ true → a ≡ b
next_is None None e = refl
next_is (Some a) (Some b) e = ap Some (injection_is a b e)
next_is _ _ e = cc

gate_is : (a b : Gate) → same_gate a b ≡ true → a ≡ b
gate_is a b e =
    let h = both (bytes_eq a.name b.name) (sameb direction_kind.the_type a.direction b.direction && (a.size == b.size)) e in
    let k = both (sameb direction_kind.the_type a.direction b.direction) (a.size == b.size) h.1 in
    ap (λ x. record a { name = x }) ((bytes_eq-Decides a.name b.name).0 h.0)
    ∙ (ap (λ x. record { name = b.name; direction = x; size = a.size }) (same_true direction_kind.the_type (search rules) a.direction b.direction k.0)
    ∙ ap (λ x. record b { size = x }) (eqb-true a.size b.size k.1))

neighbour_is : (a b : Neighbour) → same_neighbour a b ≡ true → a ≡ b
neighbour_is neighbour.Itself neighbour.Itself e = refl
neighbour_is neighbour.Around neighbour.Around e = refl
neighbour_is (neighbour.Beside a i) (neighbour.Beside b k) e =
    let h = both (bytes_eq a b) (same_index i k) e in
    ap (λ x. neighbour.Beside x i) ((bytes_eq-Decides a b).0 h.0) ∙ ap (neighbour.Beside b) (index_is i k h.1)
neighbour_is (neighbour.Inside a i) (neighbour.Inside b k) e =
    let h = both (bytes_eq a b) (same_index i k) e in
    ap (λ x. neighbour.Inside x i) ((bytes_eq-Decides a b).0 h.0) ∙ ap (neighbour.Inside b) (index_is i k h.1)
neighbour_is _ _ e = cc

channel_is : (a b : Channel) → same_channel a b ≡ true → a ≡ b
channel_is a b e =
    let h = both (sameb channel_kind.the_type a.kind b.kind) ((a.delay == b.delay) && ((a.datarate == b.datarate) && beq a.disabled b.disabled)) e in
    let k = both (a.delay == b.delay) ((a.datarate == b.datarate) && beq a.disabled b.disabled) h.1 in
    let l = both (a.datarate == b.datarate) (beq a.disabled b.disabled) k.1 in
    ap (λ x. record a { kind = x }) (same_true channel_kind.the_type (search rules) a.kind b.kind h.0)
    ∙ (ap (λ x. record a { kind = b.kind; delay = x }) (eqb-true a.delay b.delay k.0)
    ∙ (ap (λ x. record a { kind = b.kind; delay = b.delay; datarate = x }) (eqb-true a.datarate b.datarate l.0)
    ∙ ap (λ x. record b { disabled = x }) ((booleans_Decides a.disabled b.disabled).0 l.1)))

hop_is : (a b : NextGate) → same_hop a b ≡ true → a ≡ b
hop_is a b e =
    let h = both (same_neighbour a.neighbour b.neighbour) (bytes_eq a.gate b.gate && ((a.index == b.index) && same_channel a.channel b.channel)) e in
    let k = both (bytes_eq a.gate b.gate) ((a.index == b.index) && same_channel a.channel b.channel) h.1 in
    let l = both (a.index == b.index) (same_channel a.channel b.channel) k.1 in
    ap (λ x. record a { neighbour = x }) (neighbour_is a.neighbour b.neighbour h.0)
    ∙ (ap (λ x. record a { neighbour = b.neighbour; gate = x }) ((bytes_eq-Decides a.gate b.gate).0 k.0)
    ∙ (ap (λ x. record a { neighbour = b.neighbour; gate = b.gate; index = x }) (eqb-true a.index b.index l.0)
    ∙ ap (λ x. record b { channel = x }) (channel_is a.channel b.channel l.1)))

end_is : (a b : Option NextGate) → same_end a b ≡ true → a ≡ b
end_is None None e = refl
end_is (Some a) (Some b) e = ap Some (hop_is a b e)
end_is _ _ e = cc

fault_is : (a b : ModelFault) → same_fault a b ≡ true → a ≡ b
fault_is (fault.Value f) (fault.Value g) e = ap fault.Value (same_true fault_kind.the_type (search rules) f g e)
fault_is fault.UnknownType fault.UnknownType e = refl
fault_is fault.Interface fault.Interface e = refl
fault_is fault.GateSize fault.GateSize e = refl
fault_is fault.NoGate fault.NoGate e = refl
fault_is fault.AlreadyConnected fault.AlreadyConnected e = refl
fault_is fault.Unconnected fault.Unconnected e = refl
fault_is fault.TooManyTurns fault.TooManyTurns e = refl
fault_is fault.TooManyModules fault.TooManyModules e = refl
fault_is _ _ e = cc

answer_is : (a b : Answer) → same_answer a b ≡ true → a ≡ b
answer_is (answer.Root a) (answer.Root b) e = ap answer.Root ((bytes_eq-Decides a b).0 e)
answer_is (answer.Class a) (answer.Class b) e = ap answer.Class (class_is a b e)
answer_is (answer.Inside a) (answer.Inside b) e = ap answer.Inside (inside_is a b e)
answer_is (answer.Value a) (answer.Value b) e = ap answer.Value (value_is a b e)
answer_is (answer.Gate a) (answer.Gate b) e = ap answer.Gate (gate_is a b e)
answer_is (answer.Next a) (answer.Next b) e = ap answer.Next (end_is a b e)
answer_is (answer.Fault a f) (answer.Fault b g) e =
    let h = both (bytes_eq a b) (same_fault f g) e in
    ap (λ x. answer.Fault x f) ((bytes_eq-Decides a b).0 h.0) ∙ ap (answer.Fault b) (fault_is f g h.1)
answer_is (answer.Beyond a) (answer.Beyond b) e = ap answer.Beyond ((booleans_Decides a b).0 e)
answer_is (answer.Injection a) (answer.Injection b) e = ap answer.Injection (next_is a b e)
answer_is answer.Absent answer.Absent e = refl
answer_is _ _ e = cc

pub names_are : (xs ys : List (List ℕ)) → same_names xs ys ≡ true → xs ≡ ys
names_are [] [] e = refl
names_are [] (b ∷ ys) e = cc
names_are (a ∷ xs) [] e = cc
names_are (a ∷ xs) (b ∷ ys) e =
    let h = both (bytes_eq a b) (same_names xs ys) e in
    ap (λ (c : List ℕ). c ∷ xs) ((bytes_eq-Decides a b).0 h.0) ∙ ap (λ (cs : List (List ℕ)). b ∷ cs) (names_are xs ys h.1)

pub injections_are : (a b : List Injection) → same_injections a b ≡ true → a ≡ b
injections_are [] [] e = refl
injections_are (a ∷ xs) (b ∷ ys) e =
    let h = both (same_injection a b) (same_injections xs ys) e in
    ap (λ x. x ∷ xs) (injection_is a b h.0) ∙ ap (λ zs. b ∷ zs) (injections_are xs ys h.1)
injections_are _ _ e = cc

-- ---- each is the same as itself

value_same : (a : Value) → same_value a a ≡ true
value_same (value.Whole a) = (Decides-int_eq a a).1 refl
value_same (value.Truth a) = (booleans_Decides a a).1 refl
value_same (value.Text a) = (bytes_eq-Decides a a).1 refl
value_same (value.Quantity d a) = join (sameb dimension_kind.the_type d d) (int_eq a a) (true_same dimension_kind.the_type d d refl) ((Decides-int_eq a a).1 refl)

class_same : (a : Option (List ℕ)) → same_class a a ≡ true
class_same None = refl
class_same (Some a) = (bytes_eq-Decides a a).1 refl

index_same : (a : Option ℕ) → same_index a a ≡ true
index_same None = refl
index_same (Some a) = (Decides-eqb a a).1 refl

built_same : (a : Built) → same_built a a ≡ true
built_same a =
    join (bytes_eq a.name a.name) (same_index a.index a.index && same_class a.class a.class) ((bytes_eq-Decides a.name a.name).1 refl)
    (join (same_index a.index a.index) (same_class a.class a.class) (index_same a.index) (class_same a.class))

inside_same : (a : List Built) → same_inside a a ≡ true
inside_same [] = refl
inside_same (a ∷ xs) = join (same_built a a) (same_inside xs xs) (built_same a) (inside_same xs)

injection_same : (a : Injection) → same_injection a a ≡ true
injection_same a =
    join (a.number == a.number) (bytes_eq a.path a.path && (same_due a a && same_message a a)) ((Decides-eqb a.number a.number).1 refl)
    (join (bytes_eq a.path a.path) (same_due a a && same_message a a) ((bytes_eq-Decides a.path a.path).1 refl)
    (join (same_due a a) (same_message a a)
    (join (a.due.time == a.due.time) (int_eq a.due.priority a.due.priority) ((Decides-eqb a.due.time a.due.time).1 refl) ((Decides-int_eq a.due.priority a.due.priority).1 refl))
    (join (int_eq a.kind a.kind) ((a.bits == a.bits) && bytes_eq a.payload a.payload) ((Decides-int_eq a.kind a.kind).1 refl)
    (join (a.bits == a.bits) (bytes_eq a.payload a.payload) ((Decides-eqb a.bits a.bits).1 refl) ((bytes_eq-Decides a.payload a.payload).1 refl)))))

next_same : (a : Option Injection) → same_next a a ≡ true
next_same None = refl
next_same (Some a) = injection_same a

gate_same : (a : Gate) → same_gate a a ≡ true
gate_same a =
    join (bytes_eq a.name a.name) (sameb direction_kind.the_type a.direction a.direction && (a.size == a.size)) ((bytes_eq-Decides a.name a.name).1 refl)
    (join (sameb direction_kind.the_type a.direction a.direction) (a.size == a.size) (true_same direction_kind.the_type a.direction a.direction refl) ((Decides-eqb a.size a.size).1 refl))

neighbour_same : (a : Neighbour) → same_neighbour a a ≡ true
neighbour_same neighbour.Itself = refl
neighbour_same neighbour.Around = refl
neighbour_same (neighbour.Beside a i) = join (bytes_eq a a) (same_index i i) ((bytes_eq-Decides a a).1 refl) (index_same i)
neighbour_same (neighbour.Inside a i) = join (bytes_eq a a) (same_index i i) ((bytes_eq-Decides a a).1 refl) (index_same i)

channel_same : (a : Channel) → same_channel a a ≡ true
channel_same a =
    join (sameb channel_kind.the_type a.kind a.kind) ((a.delay == a.delay) && ((a.datarate == a.datarate) && beq a.disabled a.disabled)) (true_same channel_kind.the_type a.kind a.kind refl)
    (join (a.delay == a.delay) ((a.datarate == a.datarate) && beq a.disabled a.disabled) ((Decides-eqb a.delay a.delay).1 refl)
    (join (a.datarate == a.datarate) (beq a.disabled a.disabled) ((Decides-eqb a.datarate a.datarate).1 refl) ((booleans_Decides a.disabled a.disabled).1 refl)))

hop_same : (a : NextGate) → same_hop a a ≡ true
hop_same a =
    join (same_neighbour a.neighbour a.neighbour) (bytes_eq a.gate a.gate && ((a.index == a.index) && same_channel a.channel a.channel)) (neighbour_same a.neighbour)
    (join (bytes_eq a.gate a.gate) ((a.index == a.index) && same_channel a.channel a.channel) ((bytes_eq-Decides a.gate a.gate).1 refl)
    (join (a.index == a.index) (same_channel a.channel a.channel) ((Decides-eqb a.index a.index).1 refl) (channel_same a.channel)))

end_same : (a : Option NextGate) → same_end a a ≡ true
end_same None = refl
end_same (Some a) = hop_same a

fault_same : (a : ModelFault) → same_fault a a ≡ true
fault_same (fault.Value f) = true_same fault_kind.the_type f f refl
fault_same fault.UnknownType = refl
fault_same fault.Interface = refl
fault_same fault.GateSize = refl
fault_same fault.NoGate = refl
fault_same fault.AlreadyConnected = refl
fault_same fault.Unconnected = refl
fault_same fault.TooManyTurns = refl
fault_same fault.TooManyModules = refl

answer_same : (a : Answer) → same_answer a a ≡ true
answer_same (answer.Root a) = (bytes_eq-Decides a a).1 refl
answer_same (answer.Class a) = class_same a
answer_same (answer.Inside a) = inside_same a
answer_same (answer.Value a) = value_same a
answer_same (answer.Gate a) = gate_same a
answer_same (answer.Next a) = end_same a
answer_same (answer.Fault a f) = join (bytes_eq a a) (same_fault f f) ((bytes_eq-Decides a a).1 refl) (fault_same f)
answer_same (answer.Beyond a) = (booleans_Decides a a).1 refl
answer_same (answer.Injection a) = next_same a
answer_same answer.Absent = refl

-- so the test tells whether two answers are one
pub answers_decided : (a b : Answer) → Decides (same_answer a b) (a ≡ b)
answers_decided a b = (answer_is a b, λ (e : a ≡ b). subst (λ x. same_answer a x ≡ true) e (answer_same a))

-- lists of different lengths are not the same
pub lengths_differ : (a b : List Built) → (length a ≡ length b → ⊥) → false ≡ same_inside a b
lengths_differ a b h = sym (not_true (same_inside a b) (λ e. h (ap length (inside_is a b e))))
