-- The limits of this broker's numbers (this project's, but for the first).
use Rattle.std.specs.Prelude.{ℕ}

-- the furthest that the end of a token, a lease or a waiting response is set ahead, in seconds: 32 days (Vault's
-- documentation, "Lease, renew, and revoke", default maximum TTL)
abbrev pub longest_ttl : ℕ
longest_ttl = 2764800

-- the greatest version of a secret: each can be asked for in 18 digits (this project's limit)
abbrev pub greatest_version : ℕ
greatest_version = 999999999999999999

-- how many names of custom metadata a secret has at most, and of how many bytes these and their values are at most
-- (Vault's documentation, "KV secrets engine - version 2 (API)", create/update metadata)
abbrev pub most_custom_metadata : ℕ
most_custom_metadata = 64

abbrev pub longest_custom_name : ℕ
longest_custom_name = 128

abbrev pub longest_custom_value : ℕ
longest_custom_value = 512

-- the longest body of a request, in bytes (this project's limit)
abbrev pub longest_body : ℕ
longest_body = 1048576
