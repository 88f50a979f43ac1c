use Rattle.std.proofs.Common.{sym, ◌∙◌, subst, false}
use Rattle.jn_parser.proofs.Passes.{Passing, passing_starts, stops_at, goes_behind, passing_ends}
use Rattle.jn_parser.proofs.limits.passed_behind.Goals as goal

pub word-init : goal.word-init
word-init c = subst (λ ks. Passing ks false c.args.words.now c.args.words.now) (sym c.requires) (passing_starts c.args.words.now)

pub returns-in-Some-shown : goal.returns-in-Some-shown
returns-in-Some-shown c =
    stops_at c.word.masks.keys c.word.is_mask c.word.rest.now c.args.words.now c.in-Some.t c.in-Some.after.now c.in-Some-shown.limit c.in-Some.ensures c.word.invariant
    (sym c.shown.ensures ∙ c.in-Some-shown.is)

pub word-preserved : goal.word-preserved
word-preserved c =
    goes_behind c.word.masks.keys c.note.new.masks.keys c.word.is_mask c.starts-is_mask.result c.word.rest.now c.args.words.now c.in-Some.t c.in-Some.after.now c.in-Some.ensures c.word.invariant
    (sym c.shown.ensures ∙ c.in_default-shown.is) c.in_ok-note.ensures c.starts-is_mask.ensures

pub returns : goal.returns
returns c = passing_ends c.word.masks.keys c.word.is_mask c.word.rest.now c.args.words.now c.word.invariant c.in_default.ensures
