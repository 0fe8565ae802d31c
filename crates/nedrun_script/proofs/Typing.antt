-- What was asked, with one line more.
use Rattle.std.proofs.Common.{◌≡◌, ◌⊎◌, Bool, codes, ℕ, ◌<◌, List, [], ◌∷◌, ◌++◌, length, inl, inr, refl, sym, ap, ◌∙◌, subst, append_assoc, append-nil}
use Rattle.input_lines.specs.Answers.{IsLeft, IsNext}
use Rattle.input_lines.specs.Waits.{Waiting}
use Rattle.input_lines.specs.declared.line.NextLine.TheVariants as answers
use Rattle.sim_values.specs.Counts.{next_count}
use Rattle.transcripts.specs.declared.asked.AskedLine.{AskedLine}
use Rattle.transcripts.specs.declared.asked.AskedLine.TheVariants as asked
use Rattle.nedrun_script.specs.declared.dialogue.Ask.TheVariants as ask
use Rattle.nedrun_script.specs.Typing.{AreLines, AsksInOrder, BeginsWithLine, IsFirstLine, IsMeant, IsTyped}

-- more bytes come
begins_more : (all line rest more : List ℕ) → BeginsWithLine all line rest → BeginsWithLine (all ++ more) line (rest ++ more)
begins_more all line rest more (inl e) = inl (ap (λ xs. xs ++ more) e ∙ append_assoc line (10 ∷ rest) more)
begins_more all line rest more (inr h) = inr (ap (λ xs. xs ++ more) h.0 ∙ append_assoc line rest more, h.1)

pub lines_more : (t : Bool) (asks : List AskedLine) (all rest more : List ℕ) → AreLines t asks all rest → AreLines t asks (all ++ more) (rest ++ more)
lines_more t [] all rest more e = ap (λ xs. xs ++ more) e
lines_more t (a ∷ asks) all rest more h = (
  h.0 ++ more,
  record { line = h.1.line; begins = begins_more all h.1.line h.0 more h.1.begins; one = h.1.one; told = h.1.told },
  lines_more t asks h.0 rest more h.2,
)

-- a line more is asked
pub one_line_more : (t : Bool) (asks : List AskedLine) (all rest next : List ℕ) (a : AskedLine) → AreLines t asks all rest → IsFirstLine t rest a next → AreLines t (asks ++ a ∷ []) all next
one_line_more t [] all rest next a e first = (next, subst (λ xs. IsFirstLine t xs a next) (sym e) first, refl)
one_line_more t (x ∷ asks) all rest next a h first = (h.0, h.1, one_line_more t asks h.0 rest next a h.2 first)

-- ---- what a reader of lines answers

begins_of : (all line rest : List ℕ) (ends ends' : ℕ)
    → ((all ≡ line ++ 10 ∷ rest) × (ends' ≡ ends)) ⊎ ((all ≡ line) × (0 < length line) × (rest ≡ []) × (ends' ≡ next_count ends)) → BeginsWithLine all line rest
begins_of all line rest ends ends' (inl h) = inl h.0
begins_of all line rest ends ends' (inr h) = inr (h.0 ∙ sym (append-nil line) ∙ ap (λ xs. line ++ xs) (sym h.2), h.1)

-- a line was read, and this is the one that it says
line_says : (t : Bool) (typed : List AskedLine) (given given' : List ℕ) (ends ends' : ℕ) (before after : Waiting) (line said text : List ℕ)
    → AreLines t typed given before.bytes → IsNext given ends before (answers.Line line) given' ends' after → IsTyped t said line → IsMeant text said
    → AreLines t (typed ++ asked.Line text ∷ []) given' after.bytes
line_says t typed given given' ends ends' before after line said text h n says meant =
    let lines = lines_more t typed given before.bytes n.more h in
    let it = n.answers in
    subst (λ all. AreLines t (typed ++ asked.Line text ∷ []) all after.bytes) (sym n.gives.gave) (one_line_more t typed (given ++ n.more) (before.bytes ++ n.more) after.bytes (asked.Line text) lines
    (record {
      line = it.line;
      begins = begins_of (before.bytes ++ n.more) it.line after.bytes ends ends' it.is_line.ended;
      one = it.is_line.one;
      told = (said, subst (λ xs. IsTyped t said xs) it.told.0 says, meant, it.told.1);
    }))

-- it is asked
pub asks_line : (limit : ℕ) (t : Bool) (asks : List AskedLine) (given given' : List ℕ) (ends ends' : ℕ) (before after : Waiting) (line said text : List ℕ)
    → AsksInOrder limit t ask.Line asks given before → IsNext given ends before (answers.Line line) given' ends' after → IsTyped t said line → IsMeant text said
    → AsksInOrder limit t ask.Line (asks ++ asked.Line text ∷ []) given' after
asks_line limit t asks given given' ends ends' before after line said text h n says meant = (
  h.0 ++ asked.Line text ∷ [],
  ap (λ xs. xs ++ asked.Line text ∷ []) h.1,
  line_says t h.0 given given' ends ends' before after line said text h.2 n says meant,
)

-- it says `quit`, and nothing more is asked
pub asks_quit : (limit : ℕ) (t : Bool) (asks : List AskedLine) (given given' : List ℕ) (ends ends' : ℕ) (before after : Waiting) (line said : List ℕ)
    → AsksInOrder limit t ask.Line asks given before → IsNext given ends before (answers.Line line) given' ends' after → IsTyped t said line
    → said ≡ codes "quit" → AsksInOrder limit t ask.Nothing asks given' after
asks_quit limit t asks given given' ends ends' before after line said h n says quits = (
  h.0,
  h.1,
  subst (λ xs. AreLines t (h.0 ++ asked.Line xs ∷ []) given' after.bytes) quits (line_says t h.0 given given' ends ends' before after line said said h.2 n says (inl refl)),
)

pub asks_too_long : (limit : ℕ) (t : Bool) (asks : List AskedLine) (given given' : List ℕ) (ends ends' : ℕ) (before after : Waiting)
    → AsksInOrder limit t ask.Line asks given before → IsNext given ends before answers.TooLong given' ends' after
    → AsksInOrder limit t ask.Line (asks ++ asked.TooLong ∷ []) given' after
asks_too_long limit t asks given given' ends ends' before after h n =
    let lines = lines_more t h.0 given before.bytes n.more h.2 in
    let it = n.answers in (
      h.0 ++ asked.TooLong ∷ [],
      ap (λ xs. xs ++ asked.TooLong ∷ []) h.1,
      subst (λ all. AreLines t (h.0 ++ asked.TooLong ∷ []) all after.bytes) (sym n.gives.gave) (one_line_more t h.0 (given ++ n.more) (before.bytes ++ n.more) after.bytes asked.TooLong lines
          (record { line = it.line; begins = begins_of (before.bytes ++ n.more) it.line after.bytes ends ends' it.is_line.ended; one = it.is_line.one; told = it.told })),
    )

-- no line was read
asks_none : (limit : ℕ) (t : Bool) (asks : List AskedLine) (given given' more : List ℕ) (before after : Waiting) → AsksInOrder limit t ask.Line asks given before
    → given' ≡ given ++ more → after.bytes ≡ before.bytes ++ more → AsksInOrder limit t ask.Line asks given' after
asks_none limit t asks given given' more before after h gave waits =
    (h.0, h.1, subst (λ all. AreLines t h.0 all after.bytes) (sym gave) (subst (λ rest. AreLines t h.0 (given ++ more) rest) (sym waits) (lines_more t h.0 given before.bytes more h.2)))

pub asks_at_end : (limit : ℕ) (t : Bool) (asks : List AskedLine) (given given' : List ℕ) (ends ends' : ℕ) (before after : Waiting)
    → AsksInOrder limit t ask.Line asks given before → IsNext given ends before answers.End given' ends' after → AsksInOrder limit t ask.Line asks given' after
asks_at_end limit t asks given given' ends ends' before after h n = asks_none limit t asks given given' n.more before after h n.gives.gave (n.answers.bytes ∙ sym n.answers.none)

-- nothing waits at the end
pub at_end : {given given' : List ℕ} {ends ends' : ℕ} {before after : Waiting} → IsNext given ends before answers.End given' ends' after → after.bytes ≡ []
at_end n = n.answers.bytes

pub asks_spent : (limit : ℕ) (t : Bool) (asks : List AskedLine) (given given' : List ℕ) (ends ends' : ℕ) (before after : Waiting)
    → AsksInOrder limit t ask.Line asks given before → IsNext given ends before answers.Spent given' ends' after → AsksInOrder limit t ask.Line asks given' after
asks_spent limit t asks given given' ends ends' before after h n = asks_none limit t asks given given' n.more before after h n.gives.gave n.answers.untold.bytes

pub asks_not : (limit : ℕ) (t : Bool) (asks : List AskedLine) (given given' : List ℕ) (ends ends' : ℕ) (before after : Waiting)
    → AsksInOrder limit t ask.Line asks given before → IsLeft given ends before given' ends' after → AsksInOrder limit t ask.Line asks given' after
asks_not limit t asks given given' ends ends' before after h l = asks_none limit t asks given given' l.more before after h l.gives.gave l.untold.bytes
