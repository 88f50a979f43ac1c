use Rattle.std.proofs.Common.{◌≡◌, ap, ◌∙◌, refl, length, drop, suc, take, replicate, pos, arith, ◌+◌, ℕ}
use Rattle.std.proofs.lemmas.List.{length-replicate}
use Rattle.jn_machine.specs.Sizes.{taken}
use Rattle.jn_machine.proofs.Pool.{drop_zeros}
use Rattle.jn_machine.proofs.frames.move_args.Goals as goal

pub loop-k-init : goal.loop-k-init
loop-k-init c =
    let e = c.fill.ensures.words in
    let n : c.args.args + c.args.locals + 1 ≡ suc c.args.args + c.args.locals = omega arith in
    let m : c.args.args + c.args.locals + 1 ≡ suc (c.args.args + c.args.locals) = omega arith in
    record {
      has = c.requires.has;
      long = ap length e ∙ length-replicate (c.args.args + c.args.locals + 1) (pos 0);
      within = omega arith;
      left = refl;
      first = ap (take 1) e ∙ ap (λ (k : ℕ). take 1 (replicate k (pos 0))) m;
      vars = ap (taken c.args.args c.args.now.now.words) (ap (drop (suc c.args.args)) e ∙ ap (λ (k : ℕ). drop (suc c.args.args) (replicate k (pos 0))) n ∙ drop_zeros (suc c.args.args) c.args.locals);
      limit = refl;
      next_limit = c.fill.ensures.limit;
    }
