use Rattle.std.proofs.Common.{◌≡◌, ◌⊎◌, []}
use Rattle.model_reading.specs.Models.{IsModelOf, Refuses}
use Rattle.module_network.specs.Library.{library}
use Rattle.desk_server.specs.Served.{fresh_machine}
use Rattle.desk_server.specs.Serving.{Ends}
use Rattle.std.specs.String.{string_bytes}
use Rattle.nedrun_script.specs.declared.dialogue.Ask.TheVariants as ask
use Rattle.nedrun.proofs.Sessions.{session_ends, session_served}
use Rattle.nedrun.proofs.session.Goals as goal

pub returns-clause-served : goal.returns-clause-served
returns-clause-served g c =
    session_served c.serve_user-served.result c.ended.result
    (λ model. IsModelOf c.args.sources.now.texts.now c.args.sources.now.ini.now (string_bytes c.args.words.now.config) model)
    (λ model r. Ends library (fresh_machine model c.args.words.now.interval) r.0.dialogue.transcript.asked r.0.dialogue.transcript.heard r.1)
    c.serve_user-served.ensures.served c.ended.ensures.refused

pub returns-clause-early : goal.returns-clause-early
returns-clause-early g c =
    session_ends c.serve_user-served.result c.ended.result (λ user. user.stop) (λ user. user.dialogue.lines.buffer)
    (λ user. ((user.dialogue.ask ≡ ask.Line) × (user.dialogue.lines.buffer.bytes ≡ [])) ⊎ (user.dialogue.ask ≡ ask.Nothing))
    (λ fault. Refuses c.args.sources.now.texts.now c.args.sources.now.ini.now (string_bytes c.args.words.now.config) fault)
    c.args.words.now.strict (λ user. user.dialogue.has_fault)
    c.serve_user-served.ensures.stopped c.serve_user-served.ensures.refused c.ended.ensures.over c.ended.ensures.stuck c.ended.ensures.refused
