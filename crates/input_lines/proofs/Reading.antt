-- What a reader of lines has read.
use Rattle.std.proofs.Common.{Result, Ok, Err, OnErr, ◌≡◌, ◌⊎◌, ℕ, zero, suc, ◌+◌, ◌<◌, ◌≤◌, Bool, true, false, cond, ltb, List, [], ◌∷◌, ◌++◌, length, take, drop, refl, sym, ap, ◌∙◌, subst, inl, inr, arith, append_assoc, length-append}
use Rattle.std.proofs.lemmas.Bool.{ltb-true, ltb-false}
use Rattle.std.proofs.lemmas.List.{append-nil, take-append-drop, take_all, drop_all, drop_more, length-take-le, nil_from_length}
use Rattle.sim_values.specs.Counts.{next_count}
use Rattle.input_lines.specs.Answers.{Gives, IsUntold, IsTold, Answers, IsNext, IsLeft}
use Rattle.input_lines.specs.Feeds.{has_feed, IsFirstFeed}
use Rattle.input_lines.specs.Limits.{longest}
use Rattle.input_lines.specs.Lines.{Tells, lines_of}
use Rattle.input_lines.specs.Parts.{IsPart}
use Rattle.input_lines.specs.Waits.{Waiting, IsSound, IsLongFront, thrown_of}
use Rattle.input_lines.specs.declared.line.NextLine.{NextLine}
use Rattle.input_lines.specs.declared.line.NextLine.TheVariants as answers

-- What was read so far of a line that has not ended: no line feed waits, and what waits was thrown
-- away where it is too long.
pub record IsReading (given : List ℕ) (ends failures : ℕ) (before : Waiting) (given' : List ℕ) (ends' failures' : ℕ) (after : Waiting) : Type 0 where
  pub sound : IsSound before
  pub more : List ℕ
  pub gives : Gives given before.bytes given' more
  pub bytes : after.bytes ≡ before.bytes ++ more
  pub clear : has_feed after.bytes ≡ false
  pub counted : after.counted ≡ before.counted
  pub thrown : after.thrown ≡ thrown_of after.bytes
  pub goes_on : ends' ≡ ends
  pub healthy : failures' ≡ failures

-- a part more was read, of which nothing is known yet
pub record HasRead (given : List ℕ) (before : Waiting) (given' : List ℕ) (after : Waiting) : Type 0 where
  pub more : List ℕ
  pub gives : Gives given before.bytes given' more
  pub bytes : after.bytes ≡ before.bytes ++ more
  pub counted : after.counted ≡ before.counted

-- nothing was read
pub gives_none : (given waiting : List ℕ) → Gives given waiting given []
gives_none given waiting = record { gave = sym (append-nil given); needed = inl refl }

-- at the beginning
pub begins : (given : List ℕ) (ends failures : ℕ) (before after : Waiting) → IsSound before → has_feed before.bytes ≡ false
    → after.bytes ≡ before.bytes → after.counted ≡ before.counted → after.thrown ≡ thrown_of before.bytes
    → IsReading given ends failures before given ends failures after
begins given ends failures before after sound clear bytes counted thrown = record {
  sound = sound;
  more = [];
  gives = gives_none given before.bytes;
  bytes = bytes ∙ sym (append-nil before.bytes);
  clear = rw bytes clear;
  counted = counted;
  thrown = rw bytes thrown;
  goes_on = refl;
  healthy = refl;
}

-- a part more
pub reads : (given : List ℕ) (ends failures : ℕ) (before : Waiting) (given' : List ℕ) (ends' failures' : ℕ) (at : Waiting)
    → IsReading given ends failures before given' ends' failures' at → (given'' : List ℕ) (ends'' : ℕ) (after : Waiting) (n : ℕ)
    → IsPart given' ends' at.bytes given'' ends'' after.bytes n → after.counted ≡ at.counted → HasRead given before given'' after
reads given ends failures before given' ends' failures' at r given'' ends'' after n part counted = record {
  more = r.more ++ part.bytes;
  gives = record {
    gave = part.gave ∙ ap (λ g. g ++ part.bytes) r.gives.gave ∙ append_assoc given r.more part.bytes;
    needed = inr record {
      front = r.more;
      last = part.bytes;
      split = refl;
      part = omega (arith, part.count, part.within);
      clear = subst (λ b. has_feed b ≡ false) r.bytes r.clear;
    };
  };
  bytes = part.kept ∙ ap (λ b. b ++ part.bytes) r.bytes ∙ append_assoc before.bytes r.more part.bytes;
  counted = counted ∙ r.counted;
}

-- the part has no line feed
pub goes_on : (given : List ℕ) (ends failures : ℕ) (before : Waiting) (given' : List ℕ) (ends' failures' : ℕ) (at : Waiting)
    → IsReading given ends failures before given' ends' failures' at → (given'' : List ℕ) (ends'' failures'' : ℕ) (later after : Waiting) (n : ℕ)
    → IsPart given' ends' at.bytes given'' ends'' later.bytes n → 0 < n → failures'' ≡ failures' → later.counted ≡ at.counted
    → has_feed later.bytes ≡ false → after.bytes ≡ later.bytes → after.counted ≡ later.counted → after.thrown ≡ thrown_of later.bytes
    → IsReading given ends failures before given'' ends'' failures'' after
goes_on given ends failures before given' ends' failures' at r given'' ends'' failures'' later after n part some healthy counted clear bytes count thrown =
    let h = reads given ends failures before given' ends' failures' at r given'' ends'' later n part counted in
    record {
      sound = r.sound;
      more = h.more;
      gives = h.gives;
      bytes = bytes ∙ h.bytes;
      clear = rw bytes clear;
      counted = count ∙ h.counted;
      thrown = rw bytes thrown;
      goes_on = part.goes_on some ∙ r.goes_on;
      healthy = healthy ∙ r.healthy;
    }

thrown_cases : (before after : Waiting) → IsSound before → length before.bytes ≤ length after.bytes → has_feed after.bytes ≡ false
    → (long : Bool) → ltb longest (length after.bytes) ≡ long → after.thrown ≡ cond long (length after.bytes) 0
    → (after.thrown ≡ before.thrown) ⊎ IsLongFront after
thrown_cases before after sound more clear true long thrown =
    inr record { one = clear; long = omega (arith, ltb-true); thrown = thrown }
thrown_cases before after sound more clear false long thrown =
    let short : length after.bytes ≤ longest = omega (arith, ltb-false) in
    let none : before.thrown ≡ 0 = grind (arith, sound.long, sound.front) in
    inl (thrown ∙ sym none)

-- what was thrown away so far
thrown_so_far : (before after : Waiting) (more : List ℕ) → IsSound before → after.bytes ≡ before.bytes ++ more → has_feed after.bytes ≡ false
    → after.thrown ≡ thrown_of after.bytes → (after.thrown ≡ before.thrown) ⊎ IsLongFront after
thrown_so_far before after more sound bytes clear thrown =
    thrown_cases before after sound (omega (arith, ap length bytes, length-append before.bytes more)) clear (ltb longest (length after.bytes)) refl thrown

-- nothing is told, where reading is given up
pub untold : (given : List ℕ) (ends failures : ℕ) (before : Waiting) (given' : List ℕ) (ends' failures' : ℕ) (at : Waiting)
    → (r : IsReading given ends failures before given' ends' failures' at) → IsUntold (before.bytes ++ r.more) before at
untold given ends failures before given' ends' failures' at r = record {
  bytes = r.bytes;
  counted = r.counted;
  thrown = thrown_so_far before at r.more r.sound r.bytes r.clear r.thrown;
}

-- a line is told
told : (answer : NextLine) (all : List ℕ) (ends : ℕ) (before : Waiting) (ends' : ℕ) (after : Waiting) (line : List ℕ) → Tells answer line
    → IsTold all ends before.counted answer ends' after → Answers answer all ends before ends' after
told (answers.Line text) all ends before ends' after line tells is = is
told answers.TooLong all ends before ends' after line tells is = is
told answers.End all ends before ends' after line tells is = absurd tells
told answers.Spent all ends before ends' after line tells is = absurd tells

-- the bytes up to the first line feed, and those after it
split : (bytes : List ℕ) (place : ℕ) → IsFirstFeed bytes place → bytes ≡ take place bytes ++ 10 ∷ drop (place + 1) bytes
split bytes place first =
    let at : drop place bytes ≡ 10 ∷ drop (place + 1) bytes =
    drop_more bytes place 0 first.within ∙ ap (λ b. b ∷ drop (place + 1) bytes) first.is in
    sym (take-append-drop place bytes) ∙ ap (λ r. take place bytes ++ r) at

-- THE LINE BEFORE THE FIRST LINE FEED is told
pub tells_first : (given : List ℕ) (ends : ℕ) (before : Waiting) (given' : List ℕ) (more all : List ℕ) → Gives given before.bytes given' more
    → all ≡ before.bytes ++ more → (place : ℕ) → IsFirstFeed all place → (ends' : ℕ) → ends' ≡ ends → (answer : NextLine) (after : Waiting)
    → Tells answer (take place all) → after.bytes ≡ drop (place + 1) all → after.thrown ≡ 0 → after.counted ≡ before.counted + lines_of place
    → IsNext given ends before answer given' ends' after
tells_first given ends before given' more all gives is place first ends' same answer after tells bytes thrown counted =
    let long : length (take place all) ≡ place = length-take-le place all (omega (arith, first.within)) in
    record {
      more = more;
      gives = gives;
      answers = subst (λ b. Answers answer b ends before ends' after) is (told answer all ends before ends' after (take place all) tells record {
        line = take place all;
        is_line = record {
          one = first.before;
          ended = inl (split all place first ∙ ap (λ r. take place all ++ 10 ∷ r) (sym bytes), same);
        };
        told = tells;
        counted = counted ∙ ap (λ n. before.counted + lines_of n) (sym long);
        thrown = thrown;
      });
    }

-- THE LAST LINE is told, which no line feed ends
pub tells_last : (given : List ℕ) (ends : ℕ) (before : Waiting) (given' : List ℕ) (more all : List ℕ) → Gives given before.bytes given' more
    → all ≡ before.bytes ++ more → has_feed all ≡ false → (end : ℕ) → end ≡ length all → 0 < end → (ends' : ℕ) → ends' ≡ next_count ends
    → (answer : NextLine) (after : Waiting)
    → Tells answer (take end all) → after.bytes ≡ drop (end + 0) all → after.thrown ≡ 0 → after.counted ≡ before.counted + lines_of end
    → IsNext given ends before answer given' ends' after
tells_last given ends before given' more all gives is clear end e some ends' ended answer after tells bytes thrown counted =
    let whole : take end all ≡ all = take_all end all (omega arith) in
    let none : after.bytes ≡ [] = bytes ∙ drop_all (end + 0) all (omega arith) in
    let one : Tells answer all = subst (λ l. Tells answer l) whole tells in
    record {
      more = more;
      gives = gives;
      answers = subst (λ b. Answers answer b ends before ends' after) is (told answer all ends before ends' after all one record {
        line = all;
        is_line = record { one = clear; ended = inr (refl, omega arith, none, ended) };
        told = one;
        counted = counted ∙ ap (λ n. before.counted + lines_of n) e;
        thrown = thrown;
      });
    }

no_front : (before after : Waiting) → IsSound before → length before.bytes ≤ length after.bytes
    → (long : Bool) → ltb longest (length after.bytes) ≡ long → 0 ≡ cond long (length after.bytes) 0 → before.thrown ≡ 0
no_front before after sound more true long none = absurd (omega (arith, ltb-true longest (length after.bytes) long, none))
no_front before after sound more false long none = grind (arith, ltb-false longest (length after.bytes) long, sound.long, sound.front)

ended_by : (n : ℕ) {ends ends' ends'' : ℕ} → (n ≡ 0 → ends'' ≡ next_count ends') → (0 < n → ends'' ≡ ends') → ends' ≡ ends
    → (ends'' ≡ ends) ⊎ (ends'' ≡ next_count ends)
ended_by zero none some same = inr (none refl ∙ ap next_count same)
ended_by (suc n) none some same = inl (some (omega arith) ∙ same)

-- where nothing is thrown away of what was read, nothing was before
none_before : (before after : Waiting) (more : List ℕ) → IsSound before → after.bytes ≡ before.bytes ++ more → after.thrown ≡ thrown_of after.bytes
    → after.thrown ≡ 0 → before.thrown ≡ 0
none_before before after more sound bytes thrown none =
    no_front before after sound (omega (arith, ap length bytes, length-append before.bytes more)) (ltb longest (length after.bytes)) refl (sym none ∙ thrown)

-- WHERE A LINE HAS NO ROOM it is left, with all that was read
pub no_room : (given : List ℕ) (ends failures : ℕ) (before : Waiting) (given' : List ℕ) (ends' failures' : ℕ) (at : Waiting)
    → IsReading given ends failures before given' ends' failures' at → (given'' : List ℕ) (ends'' : ℕ) (later after : Waiting) (n : ℕ)
    → IsPart given' ends' at.bytes given'' ends'' later.bytes n → later.counted ≡ at.counted → later.thrown ≡ at.thrown → later.thrown ≡ 0
    → after ≡ later → IsLeft given ends before given'' ends'' after
no_room given ends failures before given' ends' failures' at r given'' ends'' later after n part counted thrown none same =
    let h = reads given ends failures before given' ends' failures' at r given'' ends'' later n part counted in
    record {
      more = h.more;
      gives = h.gives;
      untold = record {
        bytes = ap (λ w. w.bytes) same ∙ h.bytes;
        counted = ap (λ w. w.counted) same ∙ h.counted;
        thrown = inl (ap (λ w. w.thrown) same ∙ none ∙ sym (none_before before at r.more r.sound r.bytes r.thrown (sym thrown ∙ none)));
      };
      ended = ended_by n part.ended part.goes_on r.goes_on;
    }

-- what holds anyway holds where there is an error
pub anyway : {A E : Type 0} {P : Type 0} (r : Result A E) → P → OnErr r P
anyway (Ok a) p = tt
anyway (Err e) p = p

-- a part of no bytes has no line feed
pub still_clear : (given : List ℕ) (ends : ℕ) (waiting given' : List ℕ) (ends' : ℕ) (waiting' : List ℕ) (n : ℕ)
    → IsPart given ends waiting given' ends' waiting' n → n ≡ 0 → has_feed waiting ≡ false → has_feed waiting' ≡ false
still_clear given ends waiting given' ends' waiting' n part none clear =
    let no_bytes = nil_from_length part.bytes (part.count ∙ none) in
    subst (λ b. has_feed b ≡ false) (sym (append-nil waiting) ∙ ap (λ b. waiting ++ b) (sym no_bytes) ∙ sym part.kept) clear
