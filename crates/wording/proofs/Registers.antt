-- The registers of a pool below one more: it too where its bit is set, and else no more.
use Rattle.std.proofs.Common.{◌≡◌, ◌≢◌, ℕ, ◌+◌, ◌/◌, ◌%◌, ◌^◌, ◌++◌, rules}
use Rattle.std.specs.Prelude.{codes, decimal}
use Rattle.wording.specs.Words.{pool_words}

pub pool_words_in : (pool k : ℕ) → pool / 2 ^ k % 2 ≡ 1 → pool_words pool (k + 1) ≡ pool_words pool k ++ (codes " $" ++ decimal k)
unfolding pool_words
pool_words_in pool k h = search rules

pub pool_words_out : (pool k : ℕ) → pool / 2 ^ k % 2 ≢ 1 → pool_words pool (k + 1) ≡ pool_words pool k
unfolding pool_words
pool_words_out pool k h = search rules
