mod Deciding
mod Going
