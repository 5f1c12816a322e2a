mod Places
mod Earlier
