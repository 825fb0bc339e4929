-- The states found so far, a block of 128 bytes each, one after the other in a lent slice, and an index of three columns in a second one: the hash of each
-- state; the link of each to the last one before it of its bucket, plus one, 0 for none; the last one of each bucket, plus one, 0 for none.
--     mix h x               the hash h with one number more
--     four_at b i            four bytes as one number
--     fours_of b             how many fours have the block's units, whose number is its byte 120
--     hash_of b              the hash of a block: of its last eight bytes and of these fours
--     bucket_of b            the bucket of a block, one of 512: the upper nine of its hash's 32 bits
--     block W i             the i-th 128 bytes of W
--     last_below cs k n      the last of the first n blocks of cs that is of the bucket k, plus one; 0 for none
--     Holds W X cs          W begins with the blocks cs, no two alike, X is their index; they are 512 at most
--     number_in b cs         where b stands first in cs; how many they are where it does not
--     enrolled cs b         cs, and b behind them where it is new and there are not yet 512
--     Enrolls cs b W X r    what is left after b was looked up in cs: its number, and the blocks that W and X hold now
--     Full cs b W X         b is none of cs, which are 512 and stay as they are
-- Not here: what a block means (`coding`, `Code`). Assumes nothing.
use Rattle.std.specs.Prelude.{ℕ, zero, suc, ◌+◌, ◌*◌, ◌/◌, ◌%◌, ◌≤◌, ◌<◌, ◌≡◌, ◌||◌, List, [], ◌∷◌, ◌++◌, ltb, eqb, length, get_or, take, drop}
use Rattle.paper.specs.Lists.{choose, eq_l}
use Rattle.slots.specs.declared.Enrolled.{Enrolled}

abbrev pub mix : ℕ → ℕ → ℕ
mix h x = ((h + x) * 1640531527) % 4294967296

abbrev pub four_at : List ℕ → ℕ → ℕ
four_at b i = get_or b i 0 + 256 * (get_or b (i + 1) 0 + 256 * (get_or b (i + 2) 0 + 256 * get_or b (i + 3) 0))

abbrev pub fours_of : List ℕ → ℕ
fours_of b = (get_or b 120 0 % 128 + 3) / 4

unfoldable pub hash_up : List ℕ → ℕ → ℕ
hash_up b zero = mix (mix 0 (four_at b 120)) (four_at b 124)
hash_up b (suc n) = mix (hash_up b n) (four_at b (4 * n))

abbrev pub hash_of : List ℕ → ℕ
hash_of b = hash_up b (fours_of b)

abbrev pub bucket_of : List ℕ → ℕ
bucket_of b = hash_of b / 8388608

abbrev pub block : List ℕ → ℕ → List ℕ
block W i = take 128 (drop (128 * i) W)

unfoldable pub last_below : List (List ℕ) → ℕ → ℕ → ℕ
last_below cs k zero = 0
last_below cs k (suc n) = choose (eqb (bucket_of (get_or cs n [])) k) (λ u. suc n) (λ u. last_below cs k n)

unfoldable pub number_in : List ℕ → List (List ℕ) → ℕ
number_in b [] = 0
number_in b (c ∷ cs) = choose (eq_l b c) (λ u. 0) (λ u. suc (number_in b cs))

pub record Holds (W X : List ℕ) (cs : List (List ℕ)) : Type 0 where
  pub blocks : (i : ℕ) → i < length cs → block W i ≡ get_or cs i []
  pub hashes : (i : ℕ) → i < length cs → get_or X i 0 ≡ hash_of (get_or cs i [])
  pub links : (i : ℕ) → i < length cs → get_or X (512 + i) 0 ≡ last_below cs (bucket_of (get_or cs i [])) i
  pub heads : (k : ℕ) → k < 512 → get_or X (1024 + k) 0 ≡ last_below cs k (length cs)
  pub once : (i : ℕ) → i < length cs → number_in (get_or cs i []) cs ≡ i
  pub few : length cs ≤ 512

unfoldable pub enrolled : List (List ℕ) → List ℕ → List (List ℕ)
enrolled cs b = choose (ltb (number_in b cs) (length cs) || eqb (length cs) 512) (λ u. cs) (λ u. cs ++ b ∷ [])

pub record Enrolls (cs : List (List ℕ)) (b W X : List ℕ) (r : Enrolled) : Type 0 where
  pub number_is : r.number ≡ number_in b cs
  pub count_is : r.count ≡ length (enrolled cs b)
  pub holds : Holds W X (enrolled cs b)

pub record Full (cs : List (List ℕ)) (b W X : List ℕ) : Type 0 where
  pub number_is : number_in b cs ≡ 512
  pub holds : Holds W X (enrolled cs b)
