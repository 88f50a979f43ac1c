use Rattle.std.proofs.Common.{◌≡◌, ◌++◌, List, Option, length, drop, None, ap, sym, ◌∙◌}
use Rattle.jn_code.specs.declared.kind.OperandKind.{OperandKind}
use Rattle.jn_code.specs.declared.fault.CodeWhy.{CodeWhy}
use Rattle.jn_code.specs.Kinds.{takes, gives, list_of, after_it}
use Rattle.jn_code.specs.Valid.{Notes, before, settle, own_fault, judge}
use Rattle.jn_verify.specs.Passes.{given_on}
use Rattle.jn_verify.specs.Tails.{list_at, seen}
use Rattle.jn_verify.proofs.Noted.{seen_more}
use Rattle.jn_verify.proofs.pass.pass_at.Goals as goal

pub returns-in_ok-given-in-Ok-clause-passed : goal.returns-in_ok-given-in-Ok-clause-passed
returns-in_ok-given-in-Ok-clause-passed c =
    let i = c.args.image.now in
    let code = c.args.code.now in
    let n = c.args.n in
    let x = c.args.x in
    let later = c.args.later.now in
    let ls = c.args.tails.now in
    let ms = c.with_given.new.tails in
    let s = seen ls c.args.notes.now.items in
    let notes = c.settle-kinds.new.notes.items in
    let ks = before s n in
    let grown = c.in_ok-given-in-Ok.ensures.grown in
    let known : seen ms notes ≡ settle n s = ap (λ (ls : List (List OperandKind)). seen ls notes) grown.is ∙ seen_more ls grown.more notes c.settle-kinds.ensures.known ∙ c.settle-kinds.ensures.notes in
    let rest : list_at ls c.in-Ok.rest ≡ drop (length (takes i code x)) ks = c.in-Ok.ensures.rest ∙ ap (drop (length (takes i code x))) c.settle-kinds.ensures.before in
    let kinds : list_at ms c.in_ok-given-in-Ok.given ≡ after_it i code x ks = c.in_ok-given-in-Ok.ensures.kinds ∙ ap (λ (g : Option OperandKind). list_of g ++ list_at ls c.in-Ok.rest) c.gives.ensures ∙ ap (λ (js : List OperandKind). list_of (gives i code x) ++ js) rest in
    let own : own_fault i code x ks ≡ None = ap (own_fault i code x) (sym c.settle-kinds.ensures.before) ∙ c.in-Ok.ensures.none in
    c.give_on.ensures.given
    ∙ ap (λ (js : List OperandKind). given_on n x later js (seen ms notes)) kinds
    ∙ ap (λ (s : Notes). given_on n x later (after_it i code x ks) s) known
    ∙ sym (ap (λ (o : Option CodeWhy). judge i code n x later ks o (settle n s)) own)
