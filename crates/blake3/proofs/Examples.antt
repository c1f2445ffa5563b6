-- The definition at known answers, computed by the checker: the hashes of the bytes 0, 1, 2, .. of five lengths.
-- BLAKE3's own program b3sum 1.2.0 prints them so; 256 bytes are the longest body.
-- Assumes nothing.
use Prim.Native.Nat.{ℕ, zero, suc, ◌+◌, ◌*◌, ◌%◌}
use mathlib.Core.Path.{◌≡◌, refl}
use mathlib.Core.List.{List, [], ◌∷◌, map}
use Rattle.base_lists.specs.Array.{pad}
use Rattle.base_lists.specs.Bytes.{le, read_le}
use Rattle.blake3.specs.Blake3.{iv, rotate, half, g, columns, diagonals, round, rounds, initial, compress, message_words, block_words, blocks, chunk, bytes_of_words, hash}

-- n bytes of the input from place i on, which counts to 250 again and again
input : ℕ → ℕ → List ℕ
input i zero = []
input i (suc n) = i % 251 ∷ input (suc i) n

-- bytes as b3sum prints them: one number, highest byte first
printed : ℕ → List ℕ → ℕ
printed n [] = n
printed n (b ∷ bs) = printed (256 * n + b) bs

known_answers : map (λ n. printed 0 (hash (input 0 n))) (0 ∷ 1 ∷ 64 ∷ 65 ∷ 256 ∷ [])
    ≡ 0xaf1349b9f5f9a1a6a0404dea36dcc9499bcb25c9adc112b7cc9a93cae41f3262
    ∷ 0x2d3adedff11b61f14c886e35afa036736dcd87a74d27b5c1510225d0f592e213
    ∷ 0x4eed7141ea4a5cd4b788606bd23f46e212af9cacebacdc7d1f4c6dc7f2511b98
    ∷ 0xde1e5fa0be70df6d2be8fffd0e99ceaa8eb6e8c93a63f2d8d1c30ecb6b263dee
    ∷ 0xf462b63aae56ed9fb899ad8eb93aa35d3dd62773fda9c33bfe20f9dab5d3df5f
    ∷ []
unfolding input printed iv rotate half g columns diagonals round rounds initial compress message_words block_words blocks chunk bytes_of_words hash pad le read_le
known_answers = refl
