-- Numbers in bytes, by computation. Assumes nothing.
use mathlib.Core.Path.{◌≡◌, refl}
use mathlib.Core.List.{[], ◌∷◌}
use lib.IntN.{pos, negsuc}
use Rattle.buffer.specs.Numbers.{bytes_of, unsigned_of, signed_bytes, signed_of}

-- 1, 4,096 and 65,535 in 16 bits
pub sixteen : bytes_of 2 1 ∷ bytes_of 2 4096 ∷ bytes_of 2 65535 ∷ [] ≡ (1 ∷ 0 ∷ []) ∷ (0 ∷ 16 ∷ []) ∷ (255 ∷ 255 ∷ []) ∷ []
unfolding bytes_of
sixteen = refl

-- 1,000,000, -1, -1,280,000 and the least number in 32 bits
pub thirty_two :
    signed_bytes (pos 1000000) ∷ signed_bytes (negsuc 0) ∷ signed_bytes (negsuc 1279999) ∷ signed_bytes (negsuc 2147483647) ∷ []
    ≡ (64 ∷ 66 ∷ 15 ∷ 0 ∷ []) ∷ (255 ∷ 255 ∷ 255 ∷ 255 ∷ []) ∷ (0 ∷ 120 ∷ 236 ∷ 255 ∷ []) ∷ (0 ∷ 0 ∷ 0 ∷ 128 ∷ []) ∷ []
unfolding bytes_of signed_bytes
thirty_two = refl

pub back :
    signed_of (64 ∷ 66 ∷ 15 ∷ 0 ∷ []) ∷ signed_of (255 ∷ 255 ∷ 255 ∷ 255 ∷ []) ∷ signed_of (0 ∷ 120 ∷ 236 ∷ 255 ∷ []) ∷
    signed_of (0 ∷ 0 ∷ 0 ∷ 128 ∷ []) ∷ [] ≡ pos 1000000 ∷ negsuc 0 ∷ negsuc 1279999 ∷ negsuc 2147483647 ∷ []
unfolding unsigned_of signed_of
back = refl
