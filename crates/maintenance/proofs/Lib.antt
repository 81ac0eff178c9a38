mod Dropped
mod Listed
mod Made
mod RevokedAlone
mod Root
mod Told
