use Rattle.std.proofs.Common.{is_ok, if◌then◌else◌, ap, sym, ◌∙◌}
use Rattle.std.specs.FinMap.{insert}
use Rattle.jn_io.specs.Calls.{one_more, count_after}
use Rattle.jn_io.specs.MemFiles.{files_of, rest_of}
use Rattle.jn_io.specs.MemStoreState.{MemStoreState, is_listed}
use Rattle.jn_io.proofs.Saves.{files_of-AddsFile, rest_of-AddsFile, same_state}
use Rattle.jn_io.proofs.mem_store.MemStoreStore.save.Goals as goal
use Rattle.jn_io.proofs.mem_store.MemStoreStore.save.Goals.{in-Ok, in-Err}

pub returns-clause-state : goal.returns-clause-state
returns-clause-state c =
    let name = c.args.name.now in
    let bytes = c.args.bytes.now in
    let old = c.self.inside.saves.items in
    let new = c.add.new.saves.items in
    let reading = c.self.inside.«open» in
    let v = c.self.view_is in
    let fails = ap (λ f. f.items) c.next-listed.ensures.fails ∙ ap (λ (s : MemStoreState). s.fails) v in
    let calls = c.next-listed.ensures.last ∙ ap (λ (s : MemStoreState). one_more s.calls) v in
    let reads = ap (λ (s : MemStoreState). s.read_faults) v in
    let saves = c.count_after-self-inside.ensures
    ∙ ap (λ b. count_after b c.self.inside.save_faults) c.next-listed.ensures.listed
    ∙ ap (λ (s : MemStoreState). count_after (is_listed s) s.save_faults) v in
    elim c.match-add.branch [
      | in-Ok w ↦
          let a = w.in-Ok.ensures.ok in
          same_state
          (files_of-AddsFile old new name bytes a ∙ ap (λ (s : MemStoreState). insert s.files name bytes) v
          ∙ sym (ap (λ r. if is_ok r then insert c.args.self.now.files name bytes else c.args.self.now.files) w.result-is))
          (rest_of-AddsFile old new name bytes reading a c.self.invariant ∙ ap (λ (s : MemStoreState). s.rest) v)
          fails calls reads saves
      | in-Err w ↦
          let same = w.in-Err.ensures.err in
          same_state
          (ap files_of same ∙ ap (λ (s : MemStoreState). s.files) v
          ∙ sym (ap (λ r. if is_ok r then insert c.args.self.now.files name bytes else c.args.self.now.files) w.result-is))
          (ap (λ l. rest_of l reading) same ∙ ap (λ (s : MemStoreState). s.rest) v)
          fails calls reads saves
    ]
