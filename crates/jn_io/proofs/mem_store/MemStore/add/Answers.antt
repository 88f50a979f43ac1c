use Rattle.std.proofs.Common.{ap, ◌∙◌}
use Rattle.std.proofs.lemmas.Result.{on_ok_weaker}
use Rattle.std.specs.FinMap.{insert}
use Rattle.jn_io.specs.MemFiles.{AddsFile}
use Rattle.jn_io.specs.MemStoreState.{MemStoreState}
use Rattle.jn_io.proofs.Saves.{files_of-AddsFile, rest_of-AddsFile, same_state}
use Rattle.jn_io.proofs.mem_store.MemStore.add.Goals as goal

pub returns-clause-ok : goal.returns-clause-ok
returns-clause-ok c =
    let name = c.args.name.now in
    let bytes = c.args.bytes.now in
    let old = c.self.inside.saves.items in
    let new = c.add.new.saves.items in
    let v = c.self.view_is in
    on_ok_weaker c.add.result (λ (a : AddsFile old new name bytes).
    same_state
    (files_of-AddsFile old new name bytes a ∙ ap (λ (s : MemStoreState). insert s.files name bytes) v)
    (rest_of-AddsFile old new name bytes c.self.inside.«open» a c.self.invariant ∙ ap (λ (s : MemStoreState). s.rest) v)
    (ap (λ (s : MemStoreState). s.fails) v)
    (ap (λ (s : MemStoreState). s.calls) v)
    (ap (λ (s : MemStoreState). s.read_faults) v)
    (ap (λ (s : MemStoreState). s.save_faults) v))
    c.add.ensures.ok
