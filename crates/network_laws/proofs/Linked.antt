-- A kind of a catalogue, whose states are bytes, gives the replies of its script.
use Rattle.std.proofs.Common.{◌≡◌, ◌∙◌, List, [], ◌∷◌, Option, codes, refl, ap}
use Rattle.module_api.specs.declared.call.Call.{Call}
use Rattle.module_api.specs.Behaviour.{Naming}
use Rattle.module_parts.specs.Asking.{bare}
use Rattle.module_parts.specs.AskingLaws.{told_leaves}
use Rattle.module_parts.specs.ScriptLaws.{KeepsOwn}
use Rattle.module_parts.specs.Scripts.{Script, naming_of, replied_in}
use Rattle.module_stock.specs.Stock.{stock}
use Rattle.module_network.specs.Dropper.{dropper_script}
use Rattle.module_network.specs.DropperLaws as dropper
use Rattle.module_network.specs.L2Queue.{l2_queue_script}
use Rattle.module_network.specs.L2QueueLaws as l2_queue
use Rattle.module_network.specs.Library.{library}
use Rattle.module_network.specs.Network.{network}
use Rattle.module_network.specs.Receiver.{receiver_script}
use Rattle.module_network.specs.ReceiverLaws as receiver
use Rattle.module_network.specs.Sender.{sender_script}
use Rattle.module_network.specs.SenderLaws as sender
use Rattle.network_laws.specs.Played.{Turn, answered, turns_from, turns, turns_in, turns_of_kind}

bytes_play : {S : Type 0} (script : Script S) (IsOne : S → Type 0) → KeepsOwn script IsOne → (s : S) → IsOne s → (calls : List Call)
    → turns_in (naming_of script) (script.code s) calls ≡ turns_from script s calls
unfolding naming_of
bytes_play script IsOne keeps s one [] = refl
bytes_play {S} script IsOne keeps s one (call ∷ calls) =
    let by : Option S → List Turn = λ read.
    record { call = call; reply = (replied_in script (script.code s) call read).reply }
    ∷ turns_in (naming_of script) (replied_in script (script.code s) call read).state calls in
    let this : Turn = record { call = call; reply = (answered script s call).reply } in
    let next : S = (answered script s call).state in
    ap by (keeps.reads_back s one)
    ∙ ap (λ ts. this ∷ ts) (bytes_play script IsOne keeps next (told_leaves IsOne (script.asks s (bare call)) call (keeps.goes_on s (bare call) one)) calls)

kind_plays : {S : Type 0} (script : Script S) (IsOne : S → Type 0) → KeepsOwn script IsOne → (naming : Naming) → naming ≡ naming_of script → (calls : List Call)
    → turns_in naming naming.initial calls ≡ turns script calls
unfolding naming_of
kind_plays script IsOne keeps naming e calls =
    ap (λ (n : Naming). turns_in n n.initial calls) e ∙ bytes_play script IsOne keeps script.initial keeps.starts calls

pub receiver_plays : (calls : List Call) → turns_of_kind library (codes "Receiver") calls ≡ turns receiver_script calls
unfolding library stock network
receiver_plays = kind_plays receiver_script receiver.HasSmall receiver.receiver_keeps (library.naming (codes "Receiver")) refl

pub sender_plays : (calls : List Call) → turns_of_kind library (codes "Sender") calls ≡ turns sender_script calls
unfolding library stock network
sender_plays = kind_plays sender_script sender.HasSmall sender.sender_keeps (library.naming (codes "Sender")) refl

pub dropper_plays : (calls : List Call) → turns_of_kind library (codes "Dropper") calls ≡ turns dropper_script calls
unfolding library stock network
dropper_plays = kind_plays dropper_script dropper.IsSmall dropper.dropper_keeps (library.naming (codes "Dropper")) refl

pub l2_queue_plays : (calls : List Call) → turns_of_kind library (codes "L2Queue") calls ≡ turns l2_queue_script calls
unfolding library stock network
l2_queue_plays = kind_plays l2_queue_script l2_queue.HoldsFit l2_queue.l2_queue_keeps (library.naming (codes "L2Queue")) refl
