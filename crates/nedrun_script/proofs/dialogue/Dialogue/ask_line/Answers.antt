use Rattle.std.proofs.Common.{rules, refl, inl, inr, sym, ◌∙◌, codes}
use Rattle.std.proofs.lemmas.Slice.Eq.{bytes_eq-Decides}
use Rattle.nedrun_script.proofs.Typing.{asks_at_end, asks_line, asks_not, asks_quit, asks_spent, asks_too_long, at_end}
use Rattle.nedrun_script.proofs.dialogue.Dialogue.ask_line.Goals as goal

pub returns-else-is-clause-asks : goal.returns-else-is-clause-asks
returns-else-is-clause-asks g c = record {
  kept = rw (c.requires.typed, c.asks_line.ensures.asked, c.as_bytes.ensures)
      (asks_line c.args.self.now.limit c.args.self.now.at_terminal c.args.self.now.transcript.asked c.args.self.now.lines.source.given.bytes c.next.new.self.source.given.bytes c.args.self.now.lines.source.ends c.next.new.self.source.ends
      c.args.self.now.lines.buffer c.next.new.self.buffer c.in-Ok-Line.line c.typed-said.result c.meant-line.result.0 (rw c.requires.typed at c.requires.kept) (rw c.in-Ok-Line.field-0-is at c.in-Ok-Line.ensures.answers) c.typed-said.ensures c.meant-line.ensures);
  next = search rules;
  over = search rules;
  unasked = tt;
  limit = refl;
  at_terminal = refl;
  has_fault = refl;
  heard = c.asks_line.ensures.heard;
}

pub returns-then-is-clause-asks : goal.returns-then-is-clause-asks
returns-then-is-clause-asks g c = record {
  kept = asks_quit c.args.self.now.limit c.args.self.now.at_terminal c.args.self.now.transcript.asked c.args.self.now.lines.source.given.bytes c.next.new.self.source.given.bytes c.args.self.now.lines.source.ends c.next.new.self.source.ends
      c.args.self.now.lines.buffer c.next.new.self.buffer c.in-Ok-Line.line c.typed-said.result (rw c.requires.typed at c.requires.kept) (rw c.in-Ok-Line.field-0-is at c.in-Ok-Line.ensures.answers) c.typed-said.ensures
      ((bytes_eq-Decides c.typed-said.result (codes "quit")).0 (sym c.is.ensures ∙ c.if-is.true));
  next = refl;
  over = λ _. inr refl;
  unasked = tt;
  limit = refl;
  at_terminal = refl;
  has_fault = refl;
  heard = refl;
}

pub returns-in-Ok-TooLong-clause-asks : goal.returns-in-Ok-TooLong-clause-asks
returns-in-Ok-TooLong-clause-asks g c = record {
  kept = rw (c.requires.typed, c.asks_too_long.ensures.asked)
      (asks_too_long c.args.self.now.limit c.args.self.now.at_terminal c.args.self.now.transcript.asked c.args.self.now.lines.source.given.bytes c.next.new.self.source.given.bytes c.args.self.now.lines.source.ends c.next.new.self.source.ends
      c.args.self.now.lines.buffer c.next.new.self.buffer (rw c.requires.typed at c.requires.kept) (rw c.in-Ok-TooLong.field-0-is at c.in-Ok-TooLong.ensures.answers));
  next = search rules;
  over = search rules;
  unasked = tt;
  limit = refl;
  at_terminal = refl;
  has_fault = refl;
  heard = c.asks_too_long.ensures.heard;
}

pub returns-in-Ok-End-clause-asks : goal.returns-in-Ok-End-clause-asks
returns-in-Ok-End-clause-asks g c = record {
  kept = rw c.requires.typed
      (asks_at_end c.args.self.now.limit c.args.self.now.at_terminal c.args.self.now.transcript.asked c.args.self.now.lines.source.given.bytes c.next.new.self.source.given.bytes c.args.self.now.lines.source.ends c.next.new.self.source.ends
      c.args.self.now.lines.buffer c.next.new.self.buffer (rw c.requires.typed at c.requires.kept) (rw c.in-Ok-End.field-0-is at c.in-Ok-End.ensures.answers));
  next = refl;
  over = λ _. inl (c.requires.typed, at_end (rw c.in-Ok-End.field-0-is at c.in-Ok-End.ensures.answers));
  unasked = tt;
  limit = refl;
  at_terminal = refl;
  has_fault = refl;
  heard = refl;
}

pub returns-in-Ok-Spent-clause-asks : goal.returns-in-Ok-Spent-clause-asks
returns-in-Ok-Spent-clause-asks g c = record {
  kept = rw c.requires.typed
      (asks_spent c.args.self.now.limit c.args.self.now.at_terminal c.args.self.now.transcript.asked c.args.self.now.lines.source.given.bytes c.next.new.self.source.given.bytes c.args.self.now.lines.source.ends c.next.new.self.source.ends
      c.args.self.now.lines.buffer c.next.new.self.buffer (rw c.requires.typed at c.requires.kept) (rw c.in-Ok-Spent.field-0-is at c.in-Ok-Spent.ensures.answers));
  next = refl;
  over = tt;
  unasked = search rules;
  limit = refl;
  at_terminal = refl;
  has_fault = refl;
  heard = refl;
}

pub returns-in-Err-Failed-clause-asks : goal.returns-in-Err-Failed-clause-asks
returns-in-Err-Failed-clause-asks g c = record {
  kept = rw c.requires.typed
      (asks_not c.args.self.now.limit c.args.self.now.at_terminal c.args.self.now.transcript.asked c.args.self.now.lines.source.given.bytes c.next.new.self.source.given.bytes c.args.self.now.lines.source.ends c.next.new.self.source.ends
      c.args.self.now.lines.buffer c.next.new.self.buffer (rw c.requires.typed at c.requires.kept) c.in-Err-Failed.ensures.left);
  next = refl;
  over = tt;
  unasked = search rules;
  limit = refl;
  at_terminal = refl;
  has_fault = refl;
  heard = refl;
}

pub returns-in-Err-NoMemory-clause-asks : goal.returns-in-Err-NoMemory-clause-asks
returns-in-Err-NoMemory-clause-asks g c = record {
  kept = rw c.requires.typed
      (asks_not c.args.self.now.limit c.args.self.now.at_terminal c.args.self.now.transcript.asked c.args.self.now.lines.source.given.bytes c.next.new.self.source.given.bytes c.args.self.now.lines.source.ends c.next.new.self.source.ends
      c.args.self.now.lines.buffer c.next.new.self.buffer (rw c.requires.typed at c.requires.kept) c.in-Err-NoMemory.ensures.left);
  next = refl;
  over = tt;
  unasked = search rules;
  limit = refl;
  at_terminal = refl;
  has_fault = refl;
  heard = refl;
}
