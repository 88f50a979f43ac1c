use Rattle.std.proofs.Common.{rules}
use Rattle.jn_sem.specs.Does.{Body}
use Rattle.jn_intern.proofs.Pools.{keeps_more}
use Rattle.jn_heads.proofs.Parameters.{is_in, params_refused, result_refused, header_told}
use Rattle.jn_heads.proofs.Writing.{stands_kept}
use Rattle.jn_heads.proofs.params.header_of.Goals as goal

pub add_params-requires-clause-stands : goal.add_params-requires-clause-stands
add_params-requires-clause-stands c = c.in_ok-at.ensures.stands c.args.p.now c.requires.shallow ((c.is_known.ensures c.args.p.now c.requires.filled).0 (search rules))

pub result_at-requires-clause-stands : goal.result_at-requires-clause-stands
result_at-requires-clause-stands c =
    let b : Body = record { class = c.args.class.now; method = c.args.m.now } in
    (c.in-Ok.ensures.told b (is_in c.args.p.now b c.in_ok-at.at c.add_params.new.at c.add_params.new.pool c.add_params.new.pool _ c.as_slice.ensures c.in_ok-at.ensures.is)).stands

pub returns-in-Err-clause-told : goal.returns-in-Err-clause-told
returns-in-Err-clause-told c =
    let b : Body = record { class = c.args.class.now; method = c.args.m.now } in
    params_refused c.args.p.now b c.in_ok-at.at c.add_params.new.at c.add_params.new.pool c.add_params.new.pool _ c.as_slice.ensures c.in_ok-at.ensures.is c.in-Err.fault
    (c.in-Err.ensures.told b (is_in c.args.p.now b c.in_ok-at.at c.add_params.new.at c.add_params.new.pool c.add_params.new.pool _ c.as_slice.ensures c.in_ok-at.ensures.is))

pub returns-in-Err-clause-keeps : goal.returns-in-Err-clause-keeps
returns-in-Err-clause-keeps c = keeps_more c.in_ok-at.ensures.keeps c.add_params.ensures.keeps

pub returns-in-Err-result_at-clause-told : goal.returns-in-Err-result_at-clause-told
returns-in-Err-result_at-clause-told c =
    let b : Body = record { class = c.args.class.now; method = c.args.m.now } in
    let h = c.in-Ok.ensures.told b (is_in c.args.p.now b c.in_ok-at.at c.add_params.new.at c.add_params.new.pool c.add_params.new.pool _ c.as_slice.ensures c.in_ok-at.ensures.is) in
    result_refused c.args.p.now b c.in_ok-at.at c.add_params.new.at c.add_params.new.pool c.result_at.new.pool _ c.as_slice.ensures c.in_ok-at.ensures.is c.in-Err-result_at.fault h
    (c.in-Err-result_at.ensures.told b h.within)

pub returns-in-Err-result_at-clause-keeps : goal.returns-in-Err-result_at-clause-keeps
returns-in-Err-result_at-clause-keeps c = keeps_more c.in_ok-at.ensures.keeps (keeps_more c.add_params.ensures.keeps c.result_at.ensures.keeps)

pub returns-in-Ok-result_at-clause-told : goal.returns-in-Ok-result_at-clause-told
returns-in-Ok-result_at-clause-told c =
    let b : Body = record { class = c.args.class.now; method = c.args.m.now } in
    let h = c.in-Ok.ensures.told b (is_in c.args.p.now b c.in_ok-at.at c.add_params.new.at c.add_params.new.pool c.add_params.new.pool _ c.as_slice.ensures c.in_ok-at.ensures.is) in
    header_told c.args.p.now b c.in_ok-at.at c.add_params.new.at c.add_params.new.pool c.result_at.new.pool _ c.as_slice.ensures c.in_ok-at.ensures.is c.in-Ok-result_at.result h
    (c.in-Ok-result_at.ensures.told b h.within)

pub returns-in-Ok-result_at-clause-keeps : goal.returns-in-Ok-result_at-clause-keeps
returns-in-Ok-result_at-clause-keeps c = keeps_more c.in_ok-at.ensures.keeps (keeps_more c.add_params.ensures.keeps c.result_at.ensures.keeps)

pub returns-in-Ok-result_at-clause-stands : goal.returns-in-Ok-result_at-clause-stands
returns-in-Ok-result_at-clause-stands c =
    let b : Body = record { class = c.args.class.now; method = c.args.m.now } in
    let h = c.in-Ok.ensures.told b (is_in c.args.p.now b c.in_ok-at.at c.add_params.new.at c.add_params.new.pool c.add_params.new.pool _ c.as_slice.ensures c.in_ok-at.ensures.is) in
    stands_kept c.args.p.now c.add_params.new.pool c.result_at.new.pool c.add_params.new.at h.stands c.result_at.ensures.keeps

pub returns-in-Ok-result_at-clause-within : goal.returns-in-Ok-result_at-clause-within
returns-in-Ok-result_at-clause-within c =
    let b : Body = record { class = c.args.class.now; method = c.args.m.now } in
    let h = c.in-Ok.ensures.told b (is_in c.args.p.now b c.in_ok-at.at c.add_params.new.at c.add_params.new.pool c.add_params.new.pool _ c.as_slice.ensures c.in_ok-at.ensures.is) in
    h.within
