use Rattle.std.proofs.Common.{not, IsSome, subst, refl, sym, ap, ◌∙◌}
use Rattle.std.proofs.lemmas.Result.{err_from_is_err_and}
use Rattle.model_reading.specs.Models.{AreRead}
use Rattle.model_reading.proofs.Reading.{config_refused, none_copied, some_copied}
use Rattle.model_reading.proofs.begin.read_model.Goals as goal

pub returns-then-is_none-clause-refused : goal.returns-then-is_none-clause-refused
returns-then-is_none-clause-refused c = record {
  model = record { files = c.in_ok-files.files; types = c.in_ok-types.types; ini = c.in_ok-lines.lines; config = c.in_ok-config.config; chain = c.in_ok-chain.chain; injections = c.new.result; last_injection = 0 };
  read = record {
    read = record {
      small = sym c.is_too_large.ensures ∙ c.if-is_too_large.false;
      files = c.in_ok-files.files;
      declared = c.in_ok-files.ensures.accepted;
      lines = c.in_ok-lines.lines;
      said = c.in_ok-lines.ensures.accepted;
      together = c.in_ok-types.ensures.accepted.1;
    };
    files = refl;
    types = c.in_ok-types.ensures.accepted.0;
    lines = refl;
    selected = c.in_ok-config.ensures;
    exists = c.in_ok-chain.ensures.accepted.1;
    chained = c.in_ok-chain.ensures.accepted.0;
    outside = c.new.ensures;
    unused = refl;
  };
  none = sym c.network.ensures ∙ none_copied c.network.result (c.is_none.ensures ∙ ap not c.if-is_none.true);
}

pub returns-clause-accepted : goal.returns-clause-accepted
returns-clause-accepted c = record {
  read = record {
    read = record {
      small = sym c.is_too_large.ensures ∙ c.if-is_too_large.false;
      files = c.in_ok-files.files;
      declared = c.in_ok-files.ensures.accepted;
      lines = c.in_ok-lines.lines;
      said = c.in_ok-lines.ensures.accepted;
      together = c.in_ok-types.ensures.accepted.1;
    };
    files = refl;
    types = c.in_ok-types.ensures.accepted.0;
    lines = refl;
    selected = c.in_ok-config.ensures;
    exists = c.in_ok-chain.ensures.accepted.1;
    chained = c.in_ok-chain.ensures.accepted.0;
    outside = c.new.ensures;
    unused = refl;
  };
  network = subst IsSome c.network.ensures (some_copied c.network.result (c.is_none.ensures ∙ ap not c.if-is_none.false));
}

pub returns-in_err-chain-clause-refused : goal.returns-in_err-chain-clause-refused
returns-in_err-chain-clause-refused c =
    let p = err_from_is_err_and c.from_residual-in_err-chain.result c.from_residual-in_err-chain.ensures.1 in
    let read : AreRead c.args.texts.now c.args.ini.now = record {
      small = sym c.is_too_large.ensures ∙ c.if-is_too_large.false;
      files = c.in_ok-files.files;
      declared = c.in_ok-files.ensures.accepted;
      lines = c.in_ok-lines.lines;
      said = c.in_ok-lines.ensures.accepted;
      together = c.in_ok-types.ensures.accepted.1;
    } in
    rw (p.1, p.2) (config_refused c.args.texts.now c.args.ini.now c.args.config.now read c.in_err-chain.field-0.0 c.in_err-chain.ensures.refused)
