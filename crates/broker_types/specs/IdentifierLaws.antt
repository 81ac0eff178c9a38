-- Laws of identifiers: different words have different ones, each of 36 bytes.
use Rattle.std.specs.Prelude.{◌≡◌, ◌<◌, ◌^◌, ◌/◌, ℕ, zero, suc, List, [], length, get_or, Option, Some, unwrap_or, refl}
use Rattle.broker_types.specs.Words.{byte_at, bytes_high_first, to_be_bytes, from_be_bytes, w128, sym, ap, ◌∙◌, inl}
use Rattle.broker_types.specs.Words.{lit<, All-from_get_or, mod_below, id}
use Rattle.uuid.specs.Text.{lower, parsed}
use Rattle.uuid.proofs.TextLemmas.{by_index_length}
use Rattle.uuid.proofs.RoundTrips.{parses_hyphenated}
use Rattle.uuid.proofs.OrderLemmas.{from_be_bytes-to_be_bytes_16}

byte_small : (k n : ℕ) → byte_at k n < 256
byte_small zero n = mod_below n 256 (lit< tt)
byte_small (suc k) n = mod_below (n / 256 ^ suc k) 256 (lit< tt)

-- the bytes of a number are bytes
pub small_at : (k n i : ℕ) → get_or (bytes_high_first k n) i 0 < 256
small_at zero n i = lit< tt
small_at (suc k) n zero = byte_small k n
small_at (suc k) n (suc i) = small_at k n i

-- and as many as were asked for
pub long_at : (k n : ℕ) → length (bytes_high_first k n) ≡ k
long_at zero n = refl
long_at (suc k) n = ap suc (long_at k n)

-- an identifier is read back as the bytes of its word
pub reads_back : (w : ℕ) → Some (to_be_bytes w128 w) ≡ parsed (id w)
reads_back w =
    parses_hyphenated lower (to_be_bytes w128 w) (inl refl) (long_at 16 w)
    (All-from_get_or (λ b. b < 256) (to_be_bytes w128 w) 0 (λ i within. small_at 16 w i))

same_bytes : (xs ys : List ℕ) (o : Option (List ℕ)) → Some xs ≡ o → Some ys ≡ o → xs ≡ ys
same_bytes xs ys o e f = ap (λ (r : Option (List ℕ)). unwrap_or r []) (e ∙ sym f)

-- a text is the identifier of one word
pub id-same : (v w : ℕ) → v < 2 ^ 128 → w < 2 ^ 128 → id v ≡ id w → v ≡ w
id-same v w fits_v fits_w e =
    let bytes = same_bytes (to_be_bytes w128 v) (to_be_bytes w128 w) (parsed (id w)) (reads_back v ∙ ap parsed e)
    (reads_back w) in
    sym (from_be_bytes-to_be_bytes_16 v fits_v) ∙ ap (from_be_bytes w128) bytes ∙ from_be_bytes-to_be_bytes_16 w fits_w

-- an identifier has 36 bytes
pub id-length : (w : ℕ) → length (id w) ≡ 36
id-length w = by_index_length 36 _
