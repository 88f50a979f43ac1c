use Rattle.std.proofs.Common.{rules, sym}
use Rattle.std.proofs.lemmas.List.Sorted.{IsPartitionPoint-from_clause}
use Rattle.jn_reach.proofs.Searches.{iff_false}
use Rattle.jn_names.proofs.Keeping.{IsLower, parted, past_all, found_there, same_there}
use Rattle.jn_names.proofs.ascending.is_among.Goals as goal

pub returns-in-None : goal.returns-in-None
returns-in-None c =
    let ids = c.args.ids.now in
    let id = c.args.id in
    let at = c.partition_point-place.result in
    iff_false (past_all ids id at c.requires
    (IsPartitionPoint-from_clause (IsLower id.0) ids at c.partition_point-place.ensures.partitioned
    (parted ids id.0 c.requires) (λ a r g called. search rules))
    (sym c.in-None.ensures))

pub returns-in-Some : goal.returns-in-Some
returns-in-Some c =
    let ids = c.args.ids.now in
    let id = c.args.id in
    let at = c.partition_point-place.result in
    let x = c.in-Some.other.now in
    let p = IsPartitionPoint-from_clause (IsLower id.0) ids at c.partition_point-place.ensures.partitioned
    (parted ids id.0 c.requires) (λ a r g called. search rules) in (
      λ h. found_there ids id at c.requires p x (sym c.in-Some.ensures) (c.is_class.ensures.0 h),
      λ w. c.is_class.ensures.1 (same_there ids id at c.requires p x (sym c.in-Some.ensures) w),
    )
