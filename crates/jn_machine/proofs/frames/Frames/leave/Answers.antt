use Rattle.std.proofs.Common.{arith, ap, sym, ◌∙◌, ◌≡◌, ◌<◌, ◌-◌, length, reverse, take}
use Rattle.jn_machine.specs.declared.frame.Frame.{Frame}
use Rattle.jn_machine.specs.Sizes.{Sizes}
use Rattle.jn_machine.proofs.Pool.{sized_set, wide_at, high_at, waiting_long}
use Rattle.jn_machine.proofs.frames.Frames.leave.Goals as goal

pub invariant_of-self : goal.invariant_of-self
invariant_of-self c =
    let v = c.self.view_is in
    let w = waiting_long c.self.inside.live c.self.inside.pool.items (omega arith) in
    let n : length (reverse (take c.self.inside.live c.self.inside.pool.items)) ≡ length c.args.self.now.waiting = ap (λ (v : Sizes). length v.waiting) v in
    let m : c.self.inside.pool.len ≡ c.args.self.now.limit = ap (λ (v : Sizes). v.limit) v in
    let a : c.swap.new.y.vars.limit ≡ c.self.inside.wide = ap (λ (f : Frame). f.vars.limit) c.swap.ensures.y_after ∙ c.requires.wide ∙ sym (ap (λ (v : Sizes). v.wide) v) in
    let b : c.swap.new.y.vals.limit ≡ c.self.inside.high = ap (λ (f : Frame). f.vals.limit) c.swap.ensures.y_after ∙ c.requires.high ∙ sym (ap (λ (v : Sizes). v.high) v) in
    (omega arith, sized_set c.self.inside.wide c.self.inside.high c.self.inside.pool.items (c.self.inside.live - 1) c.swap.new.y c.self.invariant.1 (record { vars = a; vals = b }))

pub returns-clause-now_wide : goal.returns-clause-now_wide
returns-clause-now_wide c =
    let v = c.self.view_is in
    let w = waiting_long c.self.inside.live c.self.inside.pool.items (omega arith) in
    let n : length (reverse (take c.self.inside.live c.self.inside.pool.items)) ≡ length c.args.self.now.waiting = ap (λ (v : Sizes). length v.waiting) v in
    let m : c.self.inside.pool.len ≡ c.args.self.now.limit = ap (λ (v : Sizes). v.limit) v in
    let b : (c.self.inside.live - 1) < length c.self.inside.pool.items = omega arith in
    ap (λ (f : Frame). f.vars.limit) (c.swap.ensures.x_after ∙ c.index_mut.ensures.value) ∙ wide_at c.self.inside.wide c.self.inside.high c.self.inside.pool.items (c.self.inside.live - 1) _ c.self.invariant.1 b ∙ ap (λ (v : Sizes). v.wide) v

pub returns-clause-now_high : goal.returns-clause-now_high
returns-clause-now_high c =
    let v = c.self.view_is in
    let w = waiting_long c.self.inside.live c.self.inside.pool.items (omega arith) in
    let n : length (reverse (take c.self.inside.live c.self.inside.pool.items)) ≡ length c.args.self.now.waiting = ap (λ (v : Sizes). length v.waiting) v in
    let m : c.self.inside.pool.len ≡ c.args.self.now.limit = ap (λ (v : Sizes). v.limit) v in
    let b : (c.self.inside.live - 1) < length c.self.inside.pool.items = omega arith in
    ap (λ (f : Frame). f.vals.limit) (c.swap.ensures.x_after ∙ c.index_mut.ensures.value) ∙ high_at c.self.inside.wide c.self.inside.high c.self.inside.pool.items (c.self.inside.live - 1) _ c.self.invariant.1 b ∙ ap (λ (v : Sizes). v.high) v
