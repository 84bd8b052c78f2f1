mod EndingLemmas
mod ReaderLemmas
