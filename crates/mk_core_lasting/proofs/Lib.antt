mod Verified
mod Promised
