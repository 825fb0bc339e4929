-- A buffer that is filled a part at a time: the front read before, and behind it what one read more put there. Assumes nothing.
use Rattle.std.proofs.Common.{◌≡◌, ℕ, ◌+◌, ◌≤◌, List, ◌++◌, length, take, drop, sym, ap, subst, ◌∙◌, length-take-le}
use borrow.Rule.Slice.PartMut.{put_mid}
use Rattle.std.specs.declared.option.Option.{Option}
use Rattle.std.specs.Io.KnownBytes.{Consumes}
use Rattle.std.proofs.KnownBytes.{Consumes-trans}
use Rattle.std.proofs.Math.Seq.{take-append-add}
use Rattle.std.proofs.lemmas.List.{take-append-le}

-- the first n bytes of what a read put behind `at` bytes stand behind those
front_more : (at k n : ℕ) (old part : List ℕ) → at ≤ length old → n ≤ length part → take (at + n) (put_mid at k old part) ≡ take at old ++ take n part
front_more at k n old part h p =
    let front = take at old in
    let rest = drop k (drop at old) in
    ap (λ (m : ℕ). take (m + n) (front ++ (part ++ rest))) (sym (length-take-le at old h)) ∙ take-append-add front (part ++ rest) n
    ∙ ap (λ (l : List ℕ). front ++ l) (take-append-le n part rest p)

pub more : (at k n : ℕ) (old part : List ℕ) (a b c : Option (List ℕ)) → at ≤ length old → n ≤ length part → Consumes a b (take at old)
    → Consumes b c (take n part) → Consumes a c (take (at + n) (put_mid at k old part))
more at k n old part a b c h p before here = subst (Consumes a c) (sym (front_more at k n old part h p)) (Consumes-trans a b c _ _ before here)
