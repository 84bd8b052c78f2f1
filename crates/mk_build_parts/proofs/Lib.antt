mod Numbers
mod Following
