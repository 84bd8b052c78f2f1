mod SomeFits
mod Walks
