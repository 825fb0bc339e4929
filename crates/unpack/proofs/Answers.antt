-- What `unpack` answers: nothing where one of the tests fails (`refusing`), and where none does the state that the bytes code (`finding`).
-- Assumes nothing.
use Prim.Native.Nat.{ℕ, ◌-◌, ◌/◌, ◌^◌, ◌≤◌, ◌<◌}
use mathlib.Core.Bool.{Bool, true, false}
use mathlib.Core.List.{List}
use mathlib.Core.Option.{none}
use mathlib.Core.Path.{◌≡◌, sym, subst}
use native.Mathlib.Omega.{arith}
use lib.Dec.{T}
use lib.ListN.{length, drop, get_or}
use Rattle.paper.specs.Reaction.{Program}
use Rattle.laws.proofs.Letters.{false-not}
use Rattle.words.specs.Word.{terms}
use Rattle.words.proofs.Marks.{by-lt}
use Rattle.rewrite.specs.Stored.{stored}
use Rattle.rewrite.specs.declared.Memory.{Memory}
use Rattle.react.specs.States.{Modules}
use Rattle.react.proofs.Flagged.{ascends-named}
use Rattle.coding.specs.Code.{decode}
use Rattle.coding.specs.Layout.{word_in, mark_in, marks_in, events_of}
use Rattle.walk.specs.Judging.{Sound}
use Rattle.unpack.specs.Unpacking.{Given, Of, Shaped, Leads, Limited, Unmarked, Recalls, fresh, Bitted, Decoded}
use Rattle.unpack.proofs.Loops.{stopped-bits, bits-flags, mark-place}
use Rattle.unpack.proofs.Exact.{Passed, memory-is, refuses, takes, stands}

-- each event that was read is one of a to z
pub read_small : {b es : List ℕ} {m : Memory} → Recalls b es m → Modules es → (i : ℕ) → i < m.count → get_or m.events i 0 < 26
read_small {b} {es} {m} r e i h =
    let p = mark-place b m.count (length es) i r.leads r.limited h in
    let y = ascends-named 0 (mark_in b i - 1) es e.ascend (omega arith) in
    omega (arith, r.remembers.events_are i h, y.1)

leads_one : {b : List ℕ} (c d : ℕ) → Leads b c → Leads b d → c ≡ d
leads_one c d a e =
    by-lt c d (λ h. absurd (e.marks c h (a.stop (omega (arith, e.few)))))
    (λ h. by-lt d c (λ k. absurd (a.marks d k (e.stop (omega (arith, a.few))))) (λ k. omega arith))

-- the memory that was read
recalled : {b es : List ℕ} {m : Memory} → Recalls b es m → length m.events ≡ 8 → events_of es (marks_in b) ≡ stored m
recalled r eight = memory-is r.leads r.remembers eight

module _ {P vs ms es : List ℕ} {fs : List Bool} (g : Given P vs ms es) (b : List ℕ) (long : length b ≡ 128) (small : (i : ℕ) → get_or b i 0 < 256) (q : Program) (of : Of q P ms es fs) where
  pub refusing : (Passed P ms es fs b → ⊥) → decode q b ≡ none
  refusing = refuses of g.modules g.events b long small

  -- each test that fails
  pub not-shaped : (Shaped b → ⊥) → decode q b ≡ none
  not-shaped h = refusing (λ p. h p.shaped)

  pub not-set : (get_or b 121 0 / 2 ^ length ms ≡ 0 → ⊥) → decode q b ≡ none
  not-set h = refusing (λ p. h p.set)

  pub not-recalled : Unmarked b (length es) → decode q b ≡ none
  not-recalled h = refusing (λ p. h.2 (p.marks h.0 h.1))

  pub not-fresh : {m : Memory} → Recalls b es m → length m.events ≡ 8 → false ≡ fresh fs (stored m) → decode q b ≡ none
  not-fresh {m} r eight e = refusing (λ p. false-not (fresh fs (stored m)) (sym e) (subst (λ (x : List ℕ). T (fresh fs x)) (recalled r eight) p.fresh_is))

  module _ (W : List ℕ) (s : ℕ) (fills : drop s W ≡ word_in b) where
    abbrev Walked : Type 0
    Walked = Sound P ms (drop s W) × (length (terms P (drop s W)) ≤ 1)

    pub not-walked : (Walked → ⊥) → decode q b ≡ none
    not-walked h = refusing (λ p. h (subst (λ (x : List ℕ). Sound P ms x × (length (terms P x) ≤ 1)) (sym fills) (p.sound, p.single)))

    module _ {m : Memory} {flags : List ℕ} (shape : Shaped b) (set : Bitted (length ms) (get_or b 121 0) flags) (mem : Recalls b es m) (eight : length m.events ≡ 8) (new : true ≡ fresh fs (stored m)) (sound : Walked) where
      passing : Passed P ms es fs b
      passing = record {
        shaped = shape;
        set = set.all;
        marks = λ d e. subst (λ (x : ℕ). Limited b x (length es)) (leads_one m.count d mem.leads e) mem.limited;
        fresh_is = subst (λ (x : List ℕ). T (fresh fs x)) (sym (recalled mem eight)) (subst T new tt);
        sound = subst (λ (x : List ℕ). Sound P ms x) fills sound.0;
        single = subst (λ (x : List ℕ). length (terms P x) ≤ 1) fills sound.1;
      }

      pub finding : length flags ≡ 8 → length W ≡ 96 → s ≤ 96 → Decoded q P W ms b (record { start = s; memory = m; stopped = flags })
      finding w8 w96 s96 =
          let stops = stopped-bits ms flags (get_or b 121 0) (omega (arith, g.modules.few)) set.bits in
          record {
            is = takes of g.modules g.events b long small passing m.count mem.leads W s m flags fills (recalled mem eight) stops;
            stands = stands ms W s sound.0 sound.1 w96 s96;
            few = mem.leads.few;
            flags = bits-flags (length ms) (get_or b 121 0) flags set.bits set.behind;
          }
