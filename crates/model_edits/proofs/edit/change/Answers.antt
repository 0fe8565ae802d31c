use Rattle.std.proofs.Common.{refl}
use Rattle.model_edits.proofs.Ruling.{comes_inserted, comes_inserted_item, comes_removed, comes_removed_item, comes_replaced, comes_replaced_file, comes_selected}
use Rattle.model_edits.proofs.edit.change.Goals as goal

pub returns-in-InsertIni : goal.returns-in-InsertIni
returns-in-InsertIni c =
    rw (c.in-InsertIni.is, ← c.as_bytes.ensures)
    (comes_inserted c.args.model.now c.in-InsertIni.line c.as_bytes.result.now _ refl c.with_inserted-made.result c.with_inserted-made.ensures.accepted c.with_inserted-made.ensures.complete c.with_inserted-made.ensures.refused _ _ c.take_made.ensures)

pub returns-in-ReplaceIni : goal.returns-in-ReplaceIni
returns-in-ReplaceIni c =
    rw (c.in-ReplaceIni.is, ← c.as_bytes-in-ReplaceIni.ensures)
    (comes_replaced c.args.model.now c.in-ReplaceIni.line c.as_bytes-in-ReplaceIni.result.now _ refl c.with_replaced-made.result c.with_replaced-made.ensures.accepted c.with_replaced-made.ensures.complete c.with_replaced-made.ensures.refused _ _ c.take_made-in-ReplaceIni.ensures)

pub returns-in-RemoveIni : goal.returns-in-RemoveIni
returns-in-RemoveIni c =
    rw c.in-RemoveIni.is
    (comes_removed c.args.model.now c.in-RemoveIni.line _ refl c.with_removed-made.result c.with_removed-made.ensures.accepted c.with_removed-made.ensures.complete c.with_removed-made.ensures.refused _ _ c.take_made-in-RemoveIni.ensures)

pub returns-in-SelectConfig : goal.returns-in-SelectConfig
returns-in-SelectConfig c = rw c.in-SelectConfig.is (comes_selected c.args.model.now c.in-SelectConfig.name _ _ c.select.ensures)

pub returns-in-ReplaceNed : goal.returns-in-ReplaceNed
returns-in-ReplaceNed c =
    rw (c.in-ReplaceNed.is, ← c.as_bytes-in-ReplaceNed.ensures)
    (comes_replaced_file c.args.model.now c.in-ReplaceNed.number c.as_bytes-in-ReplaceNed.result.now c.with_file-made.result
    (rw c.as_slice.ensures at c.with_file-made.ensures) _ _ c.take_changed.ensures)

pub returns-in-AddConnection : goal.returns-in-AddConnection
returns-in-AddConnection c =
    rw (c.in-AddConnection.is, ← c.as_bytes-in-AddConnection.ensures, ← c.as_bytes-in-AddConnection-2.ensures)
    (comes_inserted_item c.args.model.now c.as_bytes-in-AddConnection.result.now c.in-AddConnection.place c.as_bytes-in-AddConnection-2.result.now c.with_connection-made.result
    (rw c.as_slice-files.ensures at c.with_connection-made.ensures) _ _ c.take_changed-in-AddConnection.ensures)

pub returns-in-RemoveConnection : goal.returns-in-RemoveConnection
returns-in-RemoveConnection c =
    rw (c.in-RemoveConnection.is, ← c.as_bytes-in-RemoveConnection.ensures)
    (comes_removed_item c.args.model.now c.as_bytes-in-RemoveConnection.result.now c.in-RemoveConnection.place c.without_connection-made.result
    (rw c.as_slice-in-RemoveConnection.ensures at c.without_connection-made.ensures) _ _ c.take_changed-in-RemoveConnection.ensures)
