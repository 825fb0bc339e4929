-- `discover::discover` meets its contract: the start's code is enrolled first, so the start stands in the working slice (`seen_start`), and all that follows
-- is `explore`. Assumes nothing.
use Prim.Native.Nat.{◌+◌}
use mathlib.Core.Path.{refl}
use mathlib.Core.List.{[]}
use native.Mathlib.Omega.{arith}
use lib.ListN.{get_or-replicate}
use borrow.Author.Rules.{rules}
use Rattle.slots.proofs.Blocks.{holds-none}
use Rattle.discover.proofs.Exploring.{seen_start, begins-code, begins-running}
use Rattle.discover.proofs.discover.Goals as goal

pub count_parts-requires : goal.count_parts-requires
count_parts-requires c = (c.requires.begins.loaded.table, omega arith)

pub begin-a-requires : goal.begin-a-requires
begin-a-requires c = let p = c.requires.begins in (record { program = p.program; loaded = p.loaded; rooted = p.rooted }, refl)

pub explore-t-requires : goal.explore-t-requires
explore-t-requires c =
    let b = c.requires.begins in
    record {
      explores = record {
        stocked = record { program = b.program; loaded = b.loaded; kinds = b.kinds; weighted = b.weighted; counted = c.count_parts.ensures };
        seen = seen_start b.program b.loaded.fit c.enroll.result
            (c.enroll.ensures.found [] (holds-none _ _ (λ k h. get_or-replicate 1536 (1024 + k) 0 0 (omega arith))) refl)
            (begins-code b.program c.begin-a.result (c.begin-a.ensures b.program b.loaded b.rooted));
      };
      room = record {
        word = search rules;
        next = search rules;
        tmp = search rules;
        work = omega (arith, c.requires.in_bounds.0, c.enroll.auto);
        index = search rules;
        few = search rules;
      };
      in_bounds = c.requires.in_bounds.1;
    }

pub returns : goal.returns
returns c = λ q d t k.
    let b = c.begin-a in
    let z = b.ensures q d t in
    record { explored = c.explore-t.ensures q d k (seen_start q d.fit c.enroll.result (c.enroll.ensures.found [] (holds-none _ _ (λ k h. get_or-replicate 1536 (1024 + k) 0 0 (omega arith))) refl) (begins-code q b.result z)); running_are = begins-running q b.result z c.args.modules.now d.its.modules_are }
