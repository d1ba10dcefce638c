-- No side below k repeats, and the sides below k hang in chains; none of an earlier triangle from j on is side k, and the rest of its chain begins with j.
use Rattle.std.proofs.Common.{◌≡◌, ℕ, suc, ◌-◌, ◌/◌, ◌%◌, ◌≤◌, ◌<◌, get_or}
use Rattle.std.specs.declared.option.Option.TheVariants.{None}
use Rattle.table.specs.Sides.{NoneBelow}
use Rattle.table_chains.specs.Linking.{LinkedTo}
use Rattle.table_chains.proofs.repeated_side.Given as goal

abbrev pub invariant-loop-j : goal.invariant-loop-j
invariant-loop-j l = record {
  none : l.repeated ≡ None;
  below : l.j ≤ l.k;
  begins : (i : ℕ) → l.j ≡ suc i → get_or l.codes i 0 / 4096 ≡ get_or l.codes l.k 0 / 4096;
  passed : (m : ℕ) → l.j ≤ m → m < l.k - l.k % 3 → get_or l.codes m 0 ≡ get_or l.codes l.k 0 → ⊥;
}

abbrev pub decreases-loop-j : goal.decreases-loop-j
decreases-loop-j l = l.j

abbrev pub invariant-search : goal.invariant-search
invariant-search l = record { none : l.repeated ≡ None; once : NoneBelow l.codes l.k; linked : LinkedTo l.codes l.index l.k }
